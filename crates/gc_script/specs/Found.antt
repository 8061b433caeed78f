-- Where the names of a line stand.
use Rattle.std.specs.Prelude.{◌≡◌}
use Rattle.gc_script.specs.Statement.{Spoken, NewOf, LetOf, NilOf, SetOf, GetOf, CatOf, PutOf, SayOf, SumOf, CollectOf, Statement, Command}
use Rattle.gc_script.specs.Earlier.{place}
use Rattle.gc_script.specs.Context.{Context}
use Rattle.gc_script.specs.declared.found.Found.{Found}

-- these are the places of a command's names
abbrev pub ArePlaces : Context → Spoken → Found → Type 0
ArePlaces c (NewOf v n) f = f.v ≡ place c.names v
ArePlaces c (LetOf v w) f = (f.v ≡ place c.names v) × (f.w ≡ place c.names w)
ArePlaces c (NilOf v) f = f.v ≡ place c.names v
ArePlaces c (SetOf v i w) f = (f.v ≡ place c.names v) × (f.w ≡ place c.names w)
ArePlaces c (GetOf v w i) f = (f.v ≡ place c.names v) × (f.w ≡ place c.names w)
ArePlaces c (CatOf v name) f = (f.v ≡ place c.names v) × (f.w ≡ place c.catalogue name)
ArePlaces c (PutOf v n) f = f.v ≡ place c.names v
ArePlaces c (SayOf label v) f = f.v ≡ place c.names v
ArePlaces c (SumOf label v i limit) f = f.v ≡ place c.names v
ArePlaces c CollectOf f = Unit {0}

-- these are the places of a line's names
abbrev pub AreFound : Context → Statement → Found → Type 0
AreFound c (Command spoken) f = ArePlaces c spoken f
AreFound c statement f = Unit {0}
