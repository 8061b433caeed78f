use Rattle.shared_heap.specs.Planning.{root_plan}
use Rattle.shared_heap.proofs.dealing.share.Given as goal

abbrev pub ghost-deal_tracers : goal.ghost-deal_tracers
ghost-deal_tracers a = root_plan
