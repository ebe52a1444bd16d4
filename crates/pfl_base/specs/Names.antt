-- The order of names, by creator and then by id.
use Rattle.std.specs.Prelude.{ℕ, Bool, ◌&&◌, ◌==◌, refl}
use Rattle.std.specs.Ordering.{nat_cmp, ordering_then}
use Rattle.std.specs.declared.cmp.Ordering.{Ordering}
use Rattle.std.specs.Coded.{Coded, code_by, coded×, coded_ℕ}
use Rattle.pfl_base.specs.declared.state_name.StateName.{StateName}

-- by creator, and then by id
abbrev pub name_cmp : StateName → StateName → Ordering
name_cmp a b = ordering_then (nat_cmp a.creator b.creator) (nat_cmp a.id b.id)

-- as a pair of numbers
abbrev pub coded_state_name : Coded StateName
coded_state_name = code_by (ℕ × ℕ) (coded× coded_ℕ coded_ℕ) (λ n. (n.creator, n.id)) (λ p. record { creator = p.0; id = p.1 }) (λ _. refl)

-- both numbers are the same
abbrev pub is_name : StateName → StateName → Bool
is_name a b = (a.creator == b.creator) && (a.id == b.id)
