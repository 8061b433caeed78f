-- The passes into which the kinds of step fall.
use Rattle.mark_core.specs.declared.passes.Pass.{Pass}
use Rattle.mark_core.specs.declared.passes.Pass.TheVariants.{Packets, Colour, Mutator, Making, World, Sweep, Counters, Help}
use Rattle.mark_core.specs.declared.kinds.Step.{Step}
use Rattle.mark_core.specs.declared.kinds.Step.TheVariants.{Reserve, Take, Give, Credit, Push, Pop, Look, ReadCount, ReadAlloc, ReadField, ReadRoot, SetMark, DirtyCard, ClearCard, ReadMarks, ReadCard, ReadPhase, ReadOwn, ReadValue, ReadIdent, ReadCat, StoreField, StoreValue, StoreRoot, ClaimBlock, ReleaseBlock, ReadFree, StoreNew, PublishCells, EnterStep, LeaveStep, RaiseStep, Observe, DropStep, StorePhase, Split, Join, NextBlock, NextOfCards, ReadBlockMarks, StoreAlloc, ClearMarks, WipeCard, StorePosition, StoreNamed, Reset, AddStat, ReadStat, StoreLength, ReadLength, OpenStep, JoinHelpStep, LeaveHelpStep, CloseStep, SeeHelp, ReadSeason, NextSeason, ExchangeField, ExchangeValue, LoadSlot, StoreSlot, ReadSlot, ReadWeak, CheckCard, HoldRoot, FlushRoot}

-- the pass of each step
abbrev pub pass_of : Step → Pass
pass_of Reserve = Packets
pass_of (Take q p) = Packets
pass_of (Give p deferred) = Packets
pass_of Credit = Packets
pass_of (Push p c) = Packets
pass_of (Pop p) = Packets
pass_of (Look q g) = Packets
pass_of ReadCount = Packets
pass_of (StoreLength p) = Packets
pass_of (ReadLength p) = Packets
pass_of (ReadAlloc b) = Colour
pass_of (ReadField c i) = Colour
pass_of (ReadRoot section v) = Colour
pass_of (LoadSlot section k) = Colour
pass_of (SetMark c) = Colour
pass_of (DirtyCard card) = Colour
pass_of (CheckCard card) = Colour
pass_of (ClearCard card) = Colour
pass_of (ReadMarks b) = Colour
pass_of (ReadCard card) = Colour
pass_of ReadPhase = Colour
pass_of (ReadOwn c i) = Mutator
pass_of (ReadValue c) = Mutator
pass_of (ReadIdent c) = Mutator
pass_of (ReadCat v) = Mutator
pass_of (StoreField v i x) = Mutator
pass_of (StoreValue v n) = Mutator
pass_of (StoreRoot v r) = Mutator
pass_of (ExchangeField v i x y) = Mutator
pass_of (ExchangeValue v m n) = Mutator
pass_of (StoreSlot k r) = Mutator
pass_of (ReadSlot k) = Mutator
pass_of (ReadWeak c) = Mutator
pass_of (HoldRoot v r) = Mutator
pass_of (FlushRoot v) = Mutator
pass_of (ClaimBlock b) = Making
pass_of ReleaseBlock = Making
pass_of ReadFree = Making
pass_of (StoreNew c part word) = Making
pass_of PublishCells = Making
pass_of EnterStep = World
pass_of LeaveStep = World
pass_of RaiseStep = World
pass_of Observe = World
pass_of DropStep = World
pass_of (StorePhase to) = World
pass_of Split = World
pass_of (Join other) = World
pass_of NextBlock = Sweep
pass_of NextOfCards = Sweep
pass_of ReadBlockMarks = Sweep
pass_of StoreAlloc = Sweep
pass_of ClearMarks = Sweep
pass_of (WipeCard card) = Sweep
pass_of (StorePosition done) = Counters
pass_of StoreNamed = Counters
pass_of (Reset which) = Counters
pass_of (AddStat which by down) = Counters
pass_of (ReadStat which) = Counters
pass_of OpenStep = Help
pass_of JoinHelpStep = Help
pass_of LeaveHelpStep = Help
pass_of CloseStep = Help
pass_of SeeHelp = Help
pass_of ReadSeason = Help
pass_of NextSeason = Help
