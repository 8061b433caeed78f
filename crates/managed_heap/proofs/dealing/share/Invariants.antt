use Rattle.std.proofs.Common.{[]}
use Rattle.managed_heap.proofs.dealing.share.Given as goal

abbrev pub ghost-deal_tracers : goal.ghost-deal_tracers
ghost-deal_tracers a = []
