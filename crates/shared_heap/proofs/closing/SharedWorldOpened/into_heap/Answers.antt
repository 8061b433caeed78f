use Rattle.shared_heap.proofs.closing.SharedWorldOpened.into_heap.Goals as goal

pub returns-clause-first : goal.returns-clause-first
returns-clause-first c = record { number = c.args.self.first.number; opened = c.args.self.opened }
