use Rattle.std.proofs.Common.{ℕ, ◌≡◌, sym, ap, ◌∙◌, subst, true, false}
use Rattle.mark_core.specs.Held.{holds_any}
use Rattle.mark_core.specs.Seats.{cleaning_left}
use Rattle.mark_core.specs.declared.kinds.Shape.{Shape}
use Rattle.mark_core.proofs.Marks.MarksIdle.{idle-cleaning}
use Rattle.gc_table.specs.Log.{events}
use Rattle.gc_table.specs.Seats.{view_of}
use Rattle.gc_table.specs.declared.view.View.{View}
use Rattle.packet_pools.specs.Seeking.{moves_packet, output_pools}
use Rattle.tracer.specs.Roots.{RootsScanned, scans_roots, SeesRoots}
use Rattle.tracer.specs.declared.traced.RootScan.{RootScan}
use Rattle.tracer.specs.declared.traced.RootScan.TheVariants.{Done, NoPacket}
use Rattle.card_clean.specs.Leaving.{rescans}
use Rattle.gc_cycle.specs.Events.{never, Sort}
use Rattle.gc_cycle.specs.Moments.{total_of}
use Rattle.gc_cycle.specs.Lower.{ScansRoots}
use Rattle.gc_cycle.specs.Sorts.{reads_root, draws_or_clears, pops, takes_deferred}
use Rattle.gc_cycle.specs.Standing.{is_at_rest}
use Rattle.gc_cycle.proofs.Ends.NoRescans.{calm, roots-begin_none}
use Rattle.gc_cycle.proofs.Idling.{idle-of, moves-quiet, rest-again, rest-parts, traced-of, traces-of}
use Rattle.gc_cycle.proofs.CleaningSpares.{moved-untaken, moves-uncleaned, moves-undeferred, moves-unpopped, root-steps, roots-uncleaned, roots-undeferred, roots-unpopped, Spares, uncounted-of, untaken, unread-of, moves-unrooted}
use Rattle.gc_cycle.specs.CardLooks.{looks_at_card}
use Rattle.gc_cycle.proofs.CardLooks.{moves-unlooked, roots-unlooked}
use Rattle.gc_cycle.proofs.roots.scan_roots.Goals as goal

pub scan_roots-requires-clause-seat : goal.scan_roots-requires-clause-seat
scan_roots-requires-clause-seat c = (c.requires.seat.0, traces-of c.args.heap.now.shape (view_of c.args.seat.now) c.requires.seat.1 c.requires.rest)

pub scan_roots-requires-clause-idle : goal.scan_roots-requires-clause-idle
scan_roots-requires-clause-idle c =
    let v : View = view_of c.args.seat.now in
    idle-of v c.args.seat.now.possible (subst (λ (sh : Shape). is_at_rest sh v.state ≡ true) (sym c.requires.seat.0.1) c.requires.rest)

pub returns-clause-traced : goal.returns-clause-traced
returns-clause-traced c =
    let v : View = view_of c.args.seat.now in
    let w : View = view_of c.scan_roots.new.seat in
    let e = c.scan_roots.ensures in
    let before : is_at_rest v.shape v.state ≡ true = subst (λ (sh : Shape). is_at_rest sh v.state ≡ true) (sym c.requires.seat.0.1) c.requires.rest in
    traced-of v w e.only (rest-again v w e.only e.seat.1 (ap holds_any e.idle.held) e.idle.work before)

none-again : (section : ℕ) (r : RootScan) (v w : View) → RootsScanned section r v w → cleaning_left v.state.cleaning ≡ false → total_of rescans v (events v w) ≡ 0
none-again section (Done marked) v w s e = calm (events v w) v (roots-begin_none (events v w) s.2.steps) e
none-again section NoPacket v w s e = moves-quiet output_pools (events v w) v s.moves

pub returns-clause-rescanned : goal.returns-clause-rescanned
returns-clause-rescanned c =
    let v : View = view_of c.args.seat.now in
    none-again c.args.section c.scan_roots.result v (view_of c.scan_roots.new.seat) c.scan_roots.ensures.scanned (idle-cleaning c.args.heap.now.shape.fields v.state (rest-parts c.args.heap.now.shape v.state c.requires.rest).work)

never-in : (f : Sort) → Spares scans_roots f → Spares (moves_packet output_pools) f → (section : ℕ) (r : RootScan) (v w : View) → RootsScanned section r v w → never f (events v w) ≡ true
never-in f h k section (Done marked) v w s = untaken scans_roots f h (events v w) (sym (root-steps (events v w)) ∙ s.2.steps)
never-in f h k section NoPacket v w s = moved-untaken output_pools f k (events v w) s.moves

pub returns-clause-uncleaned : goal.returns-clause-uncleaned
returns-clause-uncleaned c =
    never-in draws_or_clears roots-uncleaned (moves-uncleaned output_pools) c.args.section c.scan_roots.result (view_of c.args.seat.now) (view_of c.scan_roots.new.seat) c.scan_roots.ensures.scanned

pub returns-clause-unpopped : goal.returns-clause-unpopped
returns-clause-unpopped c =
    never-in pops roots-unpopped (moves-unpopped output_pools) c.args.section c.scan_roots.result (view_of c.args.seat.now) (view_of c.scan_roots.new.seat) c.scan_roots.ensures.scanned

pub returns-clause-unread : goal.returns-clause-unread
returns-clause-unread c = unread-of (view_of c.args.seat.now) (view_of c.scan_roots.new.seat) c.scan_roots.ensures.only

scans-of : (section : ℕ) (r : RootScan) (v w : View) → SeesRoots section r (events v w) → RootsScanned section r v w → ScansRoots section r v w
scans-of section (Done marked) v w seen s = seen
scans-of section NoPacket v w seen s = (s.none, moved-untaken output_pools reads_root (moves-unrooted output_pools) (events v w) s.moves)

pub returns-clause-scans : goal.returns-clause-scans
returns-clause-scans c = scans-of c.args.section c.scan_roots.result (view_of c.args.seat.now) (view_of c.scan_roots.new.seat) c.scan_roots.ensures.seen c.scan_roots.ensures.scanned

pub returns-clause-unlooked : goal.returns-clause-unlooked
returns-clause-unlooked c =
    never-in looks_at_card roots-unlooked (moves-unlooked output_pools) c.args.section c.scan_roots.result (view_of c.args.seat.now) (view_of c.scan_roots.new.seat) c.scan_roots.ensures.scanned

pub returns-clause-undeferred : goal.returns-clause-undeferred
returns-clause-undeferred c =
    never-in takes_deferred roots-undeferred moves-undeferred c.args.section c.scan_roots.result (view_of c.args.seat.now) (view_of c.scan_roots.new.seat) c.scan_roots.ensures.scanned

pub returns-clause-uncounted : goal.returns-clause-uncounted
returns-clause-uncounted c = uncounted-of (view_of c.args.seat.now) (view_of c.scan_roots.new.seat) c.scan_roots.ensures.only
