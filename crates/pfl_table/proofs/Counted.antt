-- How many rows have each rule, when a row comes or goes.
use Rattle.std.specs.Prelude.{◌≡◌, ℕ, ◌+◌, ◌-◌, ◌<◌, ◌≤◌, ◌^◌, Bool, List, [], ◌∷◌, ◌++◌, length, map, get_or, Option, Some, refl}
use Rattle.std.proofs.Common.{inl, inr, cond, ap, arith}
use Rattle.std.proofs.lemmas.Bool.{cases_lt}
use Rattle.std.proofs.lemmas.List.{get_or_past, length-map}
use Rattle.std.proofs.lemmas.List.Sums.{sum_by-cons, count_by-le-length}
use Rattle.pfl_containers.specs.Lists.{Link}
use Rattle.pfl_table.specs.declared.row.Row.{Row}
use Rattle.pfl_table.specs.inner.Counts.{AreCounts, has_rule, once, tally}
use Rattle.pfl_table.proofs.Flows.{is_number}

-- ---- rows

-- what rows count with one more
tally-with : (rule : ℕ) (front : List (Link Row)) (l : Link Row) (back : List (Link Row))
    → tally rule (front ++ l ∷ back) ≡ tally rule (front ++ back) + once rule l.value.state.rule
tally-with rule [] l back = omega (arith, sum_by-cons (λ (r : Row). cond (has_rule rule r) 1 0) l.value (map (λ (k : Link Row). k.value) back))
tally-with rule (x ∷ front) l back =
    omega (
      arith,
      sum_by-cons (λ (r : Row). cond (has_rule rule r) 1 0) x.value (map (λ (k : Link Row). k.value) (front ++ l ∷ back)),
      sum_by-cons (λ (r : Row). cond (has_rule rule r) 1 0) x.value (map (λ (k : Link Row). k.value) (front ++ back)),
      tally-with rule front l back,
    )

-- no count is more than the rows are
pub counts-few : (links : List (Link Row)) (counts : List ℕ) (limit : ℕ) → AreCounts links counts → length links < limit → limit ≤ 2 ^ 30
    → (r : ℕ) → get_or counts r 0 < 2 ^ 32 - 1
counts-few links counts limit are few small r =
    omega (arith, are r, count_by-le-length (has_rule r) (map (λ (k : Link Row). k.value) links), length-map links (λ (k : Link Row). k.value))

-- a row more
pub counts-gained : (front : List (Link Row)) (l : Link Row) (back : List (Link Row)) (rule : Option ℕ) (old new : List ℕ)
    → rule ≡ l.value.state.rule → ((r : ℕ) → get_or new r 0 ≡ get_or old r 0 + once r rule)
    → AreCounts (front ++ back) old → AreCounts (front ++ l ∷ back) new
counts-gained front l back rule old new is more are = λ r. omega (arith, more r, ap (once r) is, are r, tally-with r front l back)

-- a row that stands there is counted
pub counts-there : (front : List (Link Row)) (l : Link Row) (back : List (Link Row)) (rule : Option ℕ) (counts : List ℕ)
    → rule ≡ l.value.state.rule → AreCounts (front ++ l ∷ back) counts → (r : ℕ) → once r rule ≤ get_or counts r 0
counts-there front l back rule counts is are r = omega (arith, ap (once r) is, are r, tally-with r front l back)

-- a row less
pub counts-lost : (front : List (Link Row)) (l : Link Row) (back : List (Link Row)) (rule : Option ℕ) (old new : List ℕ)
    → rule ≡ l.value.state.rule → ((r : ℕ) → get_or old r 0 ≡ get_or new r 0 + once r rule)
    → AreCounts (front ++ l ∷ back) old → AreCounts (front ++ back) new
counts-lost front l back rule old new is less are = λ r. omega (arith, less r, ap (once r) is, are r, tally-with r front l back)

-- another row with the same rule
pub counts-kept : (front : List (Link Row)) (l m : Link Row) (back : List (Link Row)) (counts : List ℕ)
    → m.value.state.rule ≡ l.value.state.rule → AreCounts (front ++ l ∷ back) counts → AreCounts (front ++ m ∷ back) counts
counts-kept front l m back counts same are = λ r. omega (arith, ap (once r) same, are r, tally-with r front l back, tally-with r front m back)

-- ---- counts

-- a rule that has a row is one of those that are counted
pub counted-within : (counts : List ℕ) (rule : ℕ) (of : Option ℕ) → of ≡ Some rule → once rule of ≤ get_or counts rule 0 → rule < length counts
counted-within counts rule of is some =
    elim (cases_lt rule (length counts)) [
      | inl below ↦ below
      | inr past ↦ absurd (omega
          (arith, some, ap (once rule) is, ap {B = ℕ} (λ (b : Bool). cond b 1 0) (is_number rule rule refl), get_or_past counts rule 0 past))
    ]
