-- Quotas, computed by the definition.
mod StopRows
mod PayRows
use Rattle.std.proofs.Common.{◌≡◌, refl}
use Rattle.cache_refills.specs.Pace.Quota.{floor, quota}

of_a_part : quota 64 100 20 40 160 ≡ 32
of_a_part = refl

first_bound : quota 64 1000 0 0 0 ≡ 1024
first_bound = refl

nothing_left : quota 64 10 0 10 50 ≡ 0
nothing_left = refl

more_traced_than_marked : quota 64 10 0 11 50 ≡ 0
more_traced_than_marked = refl

-- objects made since the last cycle are left, and the floor is owed for them
all_traced : quota 64 1600 0 1600 64 ≡ 0
all_traced = refl

floor_of_all_traced : floor 64 1600 64 ≡ 100
floor_of_all_traced = refl

rounded_up : quota 7 100 1 0 99 ≡ 8
rounded_up = refl
