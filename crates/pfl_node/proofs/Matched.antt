-- The rule that decides matches, and what that makes of a packet.
use Rattle.std.specs.Prelude.{◌≡◌, ℕ, ◌+◌, suc, Bool, true, false, not, ◌&&◌, ◌||◌, List, [], ◌∷◌, filter, slice_get, Option, Some, None, refl}
use Rattle.std.specs.List.{AllByRecursion, enumerate_from}
use Rattle.std.specs.Option.{option_map_or, option_or}
use Rattle.std.proofs.Common.{cond, ◌∙◌, ap, sym, subst, arith}
use Rattle.pfl_base.specs.declared.addr.Addr.{Addr}
use Rattle.pfl_base.specs.declared.addr.Addr.TheVariants.{V4, V6}
use Rattle.pfl_base.specs.declared.flow.Key.{Key}
use Rattle.pfl_base.specs.declared.direction.Dir.{Dir}
use Rattle.pfl_base.specs.declared.direction.Dir.TheVariants.{Inbound, Outbound}
use Rattle.pfl_base.specs.declared.packet.Packet.{Packet}
use Rattle.pfl_base.specs.Ends.{same_family}
use Rattle.pfl_base.specs.Keys.{key}
use Rattle.pfl_base.specs.Lists.{last_of, up_to_first}
use Rattle.pfl_rules.specs.declared.pool.Pool.{Pool}
use Rattle.pfl_rules.specs.declared.rule.Rule.{Rule}
use Rattle.pfl_rules.specs.Matching.{matches, is_pass, can_start, if_said}
use Rattle.pfl_rules.specs.Rules.{verdict, verdict_by, deciding, looked_at}
use Rattle.pfl_receive.specs.table.Translating.{fits_translation}

-- ---- the rule that decides

up_all : {X : Type 0} (P : X → Type 0) (test : X → Bool) (xs : List X) → AllByRecursion P xs → AllByRecursion P (up_to_first test xs)
up_all P test [] a = tt
up_all P test (x ∷ xs) a = elim (test x) as (λ b. AllByRecursion P (cond b (x ∷ []) (x ∷ up_to_first test xs))) [
  | true ↦ (a.0, tt)
  | false ↦ (a.0, up_all P test xs a.1)
]

filter_all : {X : Type 0} (P : X → Type 0) (test : X → Bool) (xs : List X) → AllByRecursion P xs → AllByRecursion (λ x. P x × (test x ≡ true)) (filter test xs)
filter_all P test [] a = tt
filter_all P test (x ∷ xs) a = elim (test x) as (λ b. test x ≡ b → AllByRecursion (λ x. P x × (test x ≡ true)) (cond b (x ∷ filter test xs) (filter test xs))) [
  | true ↦ λ e. ((a.0, e), filter_all P test xs a.1)
  | false ↦ λ e. filter_all P test xs a.1
] refl

last_all : {X : Type 0} (P : X → Type 0) (xs : List X) (x : X) → AllByRecursion P xs → last_of xs ≡ Some x → P x
last_all P [] x a e = absurd (cc)
last_all P (y ∷ []) x a e = let same : y ≡ x = cc in subst P same a.0
last_all P (y ∷ z ∷ zs) x a e = last_all P (z ∷ zs) x a.1 e

-- an entry of a list of numbered rules is the rule with its number
abbrev Numbered : List Rule → ℕ × Rule → Type 0
Numbered rules e = slice_get rules e.0 ≡ Some e.1

enumerated : (rules : List Rule) (k : ℕ) (rs : List Rule) → ((j : ℕ) → slice_get rules (k + j) ≡ slice_get rs j)
    → AllByRecursion (Numbered rules) (enumerate_from k rs)
enumerated rules k [] h = tt
enumerated rules k (r ∷ rs) h =
    let here : k ≡ k + 0 = omega arith in (
      ap (slice_get rules) here ∙ h 0,
      enumerated rules (k + 1) rs (λ j. let next : k + 1 + j ≡ k + suc j = omega arith in ap (slice_get rules) next ∙ h (suc j)),
    )

decided : (rules : List Rule) (p : Packet) (dir : Dir) (e : ℕ × Rule) → deciding rules p dir ≡ Some e → Numbered rules e × (matches e.1 p dir ≡ true)
decided rules p dir e is =
    let from_first : (j : ℕ) → slice_get rules (0 + j) ≡ slice_get rules j = λ j. ap (slice_get rules) (let same : 0 + j ≡ j = omega arith in same) in
    last_all (λ e. Numbered rules e × (matches e.1 p dir ≡ true)) (filter (λ e. matches e.1 p dir) (looked_at rules p dir)) e
    (filter_all (Numbered rules) (λ e. matches e.1 p dir) (looked_at rules p dir)
    (up_all (Numbered rules) (λ r. r.1.quick && matches r.1 p dir) (enumerate_from 0 rules) (enumerated rules 0 rules from_first))) is

-- the rule of a verdict that passes is a pass rule, and matches
record Decided (p : Packet) (dir : Dir) (r : Rule) : Type 0 where
  matches : matches r p dir ≡ true
  pass : is_pass r.action ≡ true

by_verdict : (rules : List Rule) (p : Packet) (dir : Dir) (number : ℕ) (r : Rule) → (verdict rules p dir).pass ≡ true
    → (verdict rules p dir).rule ≡ Some number → slice_get rules number ≡ Some r → Decided p dir r
by_verdict rules p dir number r = by (deciding rules p dir) refl
  where
    by : (o : Option (ℕ × Rule)) → deciding rules p dir ≡ o → (verdict_by o).pass ≡ true → (verdict_by o).rule ≡ Some number
        → slice_get rules number ≡ Some r → Decided p dir r
    by None is pass rule there = absurd (cc)
    by (Some e) is pass rule there =
        let facts = decided rules p dir e is in
        let number_is : e.0 ≡ number = cc in
        let rule_is : Some e.1 ≡ Some r = sym facts.0 ∙ (ap (slice_get rules) number_is ∙ there) in
        let same : e.1 ≡ r = cc in
        record { matches = ap (λ (q : Rule). matches q p dir) (sym same) ∙ facts.1; pass = ap (λ (q : Rule). is_pass q.action) (sym same) ∙ pass }

-- ---- its translation is of the packet's family

right : (a b : Bool) → (a && b) ≡ true → b ≡ true
right true b e = e
right false b e = absurd (cc)

left : (a b : Bool) → (a && b) ≡ true → a ≡ true
left true b e = refl
left false b e = absurd (cc)

passes : (a b : Bool) → a ≡ true → (not a || b) ≡ true → b ≡ true
passes true b e f = f
passes false b e f = absurd (cc)

turned_round : (a b : Addr) → same_family a b ≡ true → same_family b a ≡ true
turned_round (V4 a) (V4 b) e = refl
turned_round (V6 a) (V6 b) e = refl
turned_round (V4 a) (V6 b) e = absurd (cc)
turned_round (V6 a) (V4 b) e = absurd (cc)

through : (a b c : Addr) → same_family a b ≡ true → same_family a c ≡ true → same_family b c ≡ true
through (V4 a) (V4 b) c e f = f
through (V6 a) (V6 b) c e f = f
through (V4 a) (V6 b) c e f = absurd (cc)
through (V6 a) (V4 b) c e f = absurd (cc)

pool_fits : (pool : Option Pool) (p : Packet) (dir : Dir) → same_family p.src.addr p.dst.addr ≡ true → if_said pool (λ e. same_family e.addr p.src.addr) ≡ true
    → option_map_or (λ e. same_family (key p dir).near.addr e.addr) pool true ≡ true
pool_fits None p dir h e = refl
pool_fits (Some n) p Outbound h e = turned_round n.addr p.src.addr e
pool_fits (Some n) p Inbound h e = through p.src.addr p.dst.addr n.addr h (turned_round n.addr p.src.addr e)

-- either of them fits
either_fits : (k : Key) (a b : Option Pool) → option_map_or (λ e. same_family k.near.addr e.addr) a true ≡ true
    → option_map_or (λ e. same_family k.near.addr e.addr) b true ≡ true
    → option_map_or (λ e. same_family k.near.addr e.addr) (option_or a b) true ≡ true
either_fits k None b f g = g
either_fits k (Some n) b f g = f

pub judged-fits : (rules : List Rule) (p : Packet) (dir : Dir) (number : ℕ) (r : Rule) → same_family p.src.addr p.dst.addr ≡ true
    → (verdict rules p dir).pass ≡ true → (verdict rules p dir).rule ≡ Some number → slice_get rules number ≡ Some r
    → fits_translation (key p dir) r ≡ true
judged-fits rules p dir number r family pass rule there =
    let d = by_verdict rules p dir number r pass rule there in
    let start : can_start r p ≡ true = passes (is_pass r.action) (can_start r p) d.pass (right _ _ d.matches) in
    either_fits (key p dir) r.rdr r.nat (pool_fits r.rdr p dir family (right _ _ start)) (pool_fits r.nat p dir family (right _ _ (left _ _ start)))
