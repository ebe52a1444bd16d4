-- The states of a node were last used at times from which one can reckon when they expire, and are listed with when they do.
use Rattle.std.specs.Prelude.{◌≡◌, ◌≤◌, ◌+◌, ◌*◌, ◌^◌, ℕ, Bool, true, false, nat_lt, List, [], ◌∷◌, ◌++◌, find, map, Option, Some, None, refl}
use Rattle.std.specs.List.{AllByRecursion}
use Rattle.std.proofs.Common.{append-nil, cond, ◌∙◌, ap, sym, arith}
use Rattle.std.proofs.lemmas.Bool.{ltb-false, ltb-true}
use Rattle.pfl_base.proofs.ForCallers.{names_exact, names_total}
use Rattle.pfl_edits.specs.Maps as maps
use Rattle.pfl_edits.proofs.ForCallers.{first_value-stands}
use Rattle.pfl_rules.specs.Rules.{timeout}
use Rattle.pfl_track.specs.declared.state.State.{State}
use Rattle.pfl_table.specs.declared.row.Row.{Row}
use Rattle.pfl_world.specs.desk.Nodes.{AreParts, IsNodeState, Node, last_millisecond, most_left}
use Rattle.pfl_reasons.specs.declared.expiry.Expiry.{Expiry}
use Rattle.pfl_reasons.specs.Purges.{expiries, expiry_of}

-- a state that was last used too late for that
abbrev is_late : State → Bool
is_late s = nat_lt (2 ^ 63) s.last

-- one that is not
abbrev pub IsReckoned : State → Type 0
IsReckoned s = s.last ≤ 2 ^ 63

-- what is found passes
pub passes : {X : Type 0} (p : X → Bool) (xs : List X) (x : X) → find p xs ≡ Some x → p x ≡ true
passes p [] x is = absurd (cc)
passes p (y ∷ ys) x is = elim (p y) as (λ b. p y ≡ b → cond b (Some y) (find p ys) ≡ Some x → p x ≡ true) [
  | true ↦ λ e is. let same : y ≡ x = cc in ap p (sym same) ∙ e
  | false ↦ λ e is. passes p ys x is
] refl is

-- of rows whose states pass a test nowhere
rows-reckoned : (rows : List Row) → find is_late (map (λ r. r.state) rows) ≡ None → AllByRecursion (λ r. IsReckoned r.state) rows
rows-reckoned [] none = tt
rows-reckoned (r ∷ rows) none = elim (is_late r.state) as (λ b. is_late r.state ≡ b
    → cond b (Some r.state) (find is_late (map (λ r. r.state) rows)) ≡ None → IsReckoned r.state
    × AllByRecursion (λ r. IsReckoned r.state) rows) [
      | true ↦ λ e none. absurd (cc)
      | false ↦ λ e none. (ltb-false (2 ^ 63) r.state.last e, rows-reckoned rows none)
    ] refl none

-- a state of a node was not used after the clock, or what is left of it fits a record
last-reckoned : (n : Node) (s : State) → n.clock ≤ last_millisecond → IsNodeState n s → IsReckoned s
last-reckoned n s clock is = by (nat_lt n.clock s.last) refl
  where
    ended : (last seconds now : ℕ) → now ≤ last_millisecond → last + seconds * 1000 ≤ now + most_left → last ≤ 2 ^ 63
    ended last seconds now within fits = omega arith

    by : (b : Bool) → nat_lt n.clock s.last ≡ b → IsReckoned s
    by true ahead = ended s.last (timeout n.rules s.rule s.class) n.clock clock (is.ahead (ltb-true n.clock s.last ahead))
    by false not = let past = ltb-false n.clock s.last not in omega (arith, past)

none-late : (n : Node) → AreParts n → find is_late (maps.values n.states) ≡ None
none-late n are = by (find is_late (maps.values n.states)) refl
  where
    by : (o : Option State) → find is_late (maps.values n.states) ≡ o → o ≡ None
    by None is = refl
    by (Some s) is =
        let at = first_value-stands names_total names_exact is_late n.states s is in
        let reckoned : s.last ≤ 2 ^ 63 = last-reckoned n s are.clock (are.each at.0 s at.1) in
        let late = ltb-true (2 ^ 63) s.last (passes is_late (maps.values n.states) s is) in
        absurd (omega arith)

pub listed-reckoned : (n : Node) (rows : List Row) → AreParts n → map (λ r. r.state) rows ≡ maps.values n.states
    → AllByRecursion (λ r. IsReckoned r.state) rows
listed-reckoned n rows are states = rows-reckoned rows (ap (find is_late) states ∙ none-late n are)

-- the rows' states, each with when it expires
abbrev pub rows_expiries : ℕ → Node → List Row → List Expiry
rows_expiries states n rows = map (λ r. expiry_of states n r.state) rows

rows-states : (states : ℕ) (n : Node) (rows : List Row) → rows_expiries states n rows ≡ map (expiry_of states n) (map (λ r. r.state) rows)
rows-states states n [] = refl
rows-states states n (r ∷ rows) = ap (λ es. expiry_of states n r.state ∷ es) (rows-states states n rows)

-- where no row is left, all states are listed
pub all-listed : (n : Node) (states : ℕ) (list : List Expiry) (rows left : List Row) → states ≡ maps.len n.states
    → map (λ r. r.state) rows ≡ maps.values n.states → left ≡ []
    → list ++ rows_expiries states n left ≡ rows_expiries states n rows → list ≡ expiries n
unfolding expiries
all-listed n states list rows left many all none listed =
    sym (append-nil list) ∙ (ap (λ (rs : List Row). list ++ rows_expiries states n rs) (sym none)
    ∙ (listed ∙ (rows-states states n rows ∙ λ i. map (expiry_of (many i) n) (all i))))
