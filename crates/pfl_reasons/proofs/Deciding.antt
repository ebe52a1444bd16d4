-- The rule that decides about a packet is the last one that matches, or the first one that is quick.
use Rattle.std.specs.Prelude.{◌≡◌, ◌<◌, ◌⊎◌, ◌&&◌, ◌+◌, ℕ, zero, suc, Bool, true, false, List, [], ◌∷◌, filter, slice_get, Option, Some, None, refl}
use Rattle.std.specs.List.{enumerate_from}
use Rattle.std.specs.Option.{option_or}
use Rattle.std.proofs.Common.{cond, ◌∙◌, ap, arith, inl, inr, subst, sym}
use Rattle.pfl_base.specs.declared.direction.Dir.{Dir}
use Rattle.pfl_base.specs.declared.packet.Packet.{Packet}
use Rattle.pfl_base.specs.Lists.{last_of, up_to_first}
use Rattle.pfl_rules.specs.declared.rule.Rule.{Rule}
use Rattle.pfl_rules.specs.Matching.{matches}
use Rattle.pfl_rules.specs.Rules.{deciding}
use Rattle.pfl_reasons.specs.Deciding.{Decides, NoneMatches}

-- ---- the last of a list

some-last : {X : Type 0} (x : X) (xs : List X) (o : Option X) → option_or (last_of (x ∷ xs)) o ≡ last_of (x ∷ xs)
some-last x [] o = refl
some-last x (y ∷ ys) o = some-last y ys o

last-or : {X : Type 0} (x : X) (xs : List X) → last_of (x ∷ xs) ≡ option_or (last_of xs) (Some x)
last-or x [] = refl
last-or x (y ∷ ys) = sym (some-last y ys (Some x))

and-false : (a : Bool) → (a && false) ≡ false
and-false true = refl
and-false false = refl

module _ (p : Packet) (dir : Dir) where
  abbrev fits : ℕ × Rule → Bool
  fits e = matches e.1 p dir

  abbrev stops : ℕ × Rule → Bool
  stops e = e.1.quick && matches e.1 p dir

  -- the rule that decides among these, which are numbered from k on
  abbrev chosen : ℕ → List Rule → Option (ℕ × Rule)
  chosen k rules = last_of (filter fits (up_to_first stops (enumerate_from k rules)))

  -- by the first of them: whether it matches and is quick
  first : (k : ℕ) (r : Rule) (rest : List Rule) (fit quick : Bool) → matches r p dir ≡ fit → r.quick ≡ quick
      → chosen k (r ∷ rest) ≡ cond fit (cond quick (Some (k, r)) (option_or (chosen (k + 1) rest) (Some (k, r)))) (chosen (k + 1) rest)
  first k r rest fit quick is fast = (λ i. last_of (filter fits (cond (fast i && is i) ((k, r) ∷ []) ((k, r) ∷ later)))) ∙ by fit quick is
    where
      later : List (ℕ × Rule)
      later = up_to_first stops (enumerate_from (k + 1) rest)

      by : (fit quick : Bool) → matches r p dir ≡ fit
          → last_of (filter fits (cond (quick && fit) ((k, r) ∷ []) ((k, r) ∷ later)))
          ≡ cond fit (cond quick (Some (k, r)) (option_or (last_of (filter fits later)) (Some (k, r)))) (last_of (filter fits later))
      by true true is = ap (λ (b : Bool). last_of (cond b ((k, r) ∷ []) [])) is
      by true false is = ap (λ (b : Bool). last_of (cond b ((k, r) ∷ filter fits later) (filter fits later))) is ∙ last-or (k, r) (filter fits later)
      by false true is = ap (λ (b : Bool). last_of (cond b ((k, r) ∷ filter fits later) (filter fits later))) is
      by false false is = ap (λ (b : Bool). last_of (cond b ((k, r) ∷ filter fits later) (filter fits later))) is

  -- where none decides, none matches
  none-matches : (rules : List Rule) (k : ℕ) → chosen k rules ≡ None → NoneMatches rules p dir
  none-matches [] k none i q at = absurd (cc)
  none-matches (r ∷ rest) k none i q at =
      by (matches r p dir) r.quick refl (chosen (k + 1) rest) (sym (first k r rest (matches r p dir) r.quick refl refl) ∙ none)
      (none-matches rest (k + 1)) i at
    where
      by : (fit quick : Bool) → matches r p dir ≡ fit → (o : Option (ℕ × Rule))
          → cond fit (cond quick (Some (k, r)) (option_or o (Some (k, r)))) o ≡ None
          → (o ≡ None → NoneMatches rest p dir) → (i : ℕ) → slice_get (r ∷ rest) i ≡ Some q → matches q p dir ≡ false
      by true true is o none later i at = absurd (cc)
      by true false is None none later i at = absurd (cc)
      by true false is (Some e) none later i at = absurd (cc)
      by false quick is o none later zero at = let same : r ≡ q = cc in ap (λ (x : Rule). matches x p dir) (sym same) ∙ is
      by false quick is o none later (suc i) at = later none i q at

  -- of a rule that decides among the others, where the first is not quick or does not match
  after-first : (r : Rule) (rest : List Rule) (i : ℕ) (x : Rule) → (r.quick && matches r p dir) ≡ false → Decides rest p dir i x
      → Decides (r ∷ rest) p dir (suc i) x
  after-first r rest i x slow d = record {
    there = d.there;
    matching = d.matching;
    before = before;
    last = elim d.last [ inl quick ↦ inl quick | inr none ↦ inr (later none) ];
  }
    where
      before : (j : ℕ) (q : Rule) → j < suc i → slice_get (r ∷ rest) j ≡ Some q → (q.quick && matches q p dir) ≡ false
      before zero q less at = let same : r ≡ q = cc in ap (λ (y : Rule). y.quick && matches y p dir) (sym same) ∙ slow
      before (suc j) q less at = d.before j q (omega arith) at

      later : ((j : ℕ) (q : Rule) → i < j → slice_get rest j ≡ Some q → matches q p dir ≡ false)
          → (j : ℕ) (q : Rule) → suc i < j → slice_get (r ∷ rest) j ≡ Some q → matches q p dir ≡ false
      later none zero q less at = absurd (omega arith)
      later none (suc j) q less at = none j q (omega arith) at

  -- of the first, where that decides
  first-decides : (r : Rule) (rest : List Rule) → matches r p dir ≡ true → (r.quick ≡ true) ⊎ NoneMatches rest p dir → Decides (r ∷ rest) p dir 0 r
  first-decides r rest is last = record {
    there = refl;
    matching = is;
    before = λ j q less at. absurd (omega arith);
    last = elim last [ inl quick ↦ inl quick | inr none ↦ inr (later none) ];
  }
    where
      later : NoneMatches rest p dir → (j : ℕ) (q : Rule) → 0 < j → slice_get (r ∷ rest) j ≡ Some q → matches q p dir ≡ false
      later none zero q less at = absurd (omega arith)
      later none (suc j) q less at = none j q at

  -- the rule with its place among these
  abbrev AtPlace : ℕ → List Rule → ℕ × Rule → Type 0
  AtPlace k rules e = (i : ℕ) × (e.0 ≡ k + i) × Decides rules p dir i e.1

  chosen-decides : (rules : List Rule) (k : ℕ) (e : ℕ × Rule) → chosen k rules ≡ Some e → AtPlace k rules e
  chosen-decides [] k e is = absurd (cc)
  chosen-decides (r ∷ rest) k e is =
      by (matches r p dir) r.quick refl refl (chosen (k + 1) rest) refl
      (sym (first k r rest (matches r p dir) r.quick refl refl) ∙ is) (chosen-decides rest (k + 1) e)
    where
      here : matches r p dir ≡ true → (r.quick ≡ true) ⊎ NoneMatches rest p dir → (k, r) ≡ e → AtPlace k (r ∷ rest) e
      here fits last same = subst (AtPlace k (r ∷ rest)) same (0, omega arith, first-decides r rest fits last)

      there : (r.quick && matches r p dir) ≡ false → AtPlace (k + 1) rest e → AtPlace k (r ∷ rest) e
      there slow at = let number = at.1 in (suc at.0, omega (arith, number), after-first r rest at.0 e.1 slow at.2)

      by : (fit quick : Bool) → matches r p dir ≡ fit → r.quick ≡ quick → (o : Option (ℕ × Rule)) → chosen (k + 1) rest ≡ o
          → cond fit (cond quick (Some (k, r)) (option_or o (Some (k, r)))) o ≡ Some e
          → (chosen (k + 1) rest ≡ Some e → AtPlace (k + 1) rest e) → AtPlace k (r ∷ rest) e
      by true true fits fast o at is later = here fits (inl fast) (cc)
      by true false fits slow None at is later = here fits (inr (none-matches rest (k + 1) at)) (cc)
      by true false fits slow (Some f) at is later = there (ap (λ (b : Bool). b && matches r p dir) slow) (later (at ∙ is))
      by false quick fits fast o at is later = there (ap (λ (b : Bool). r.quick && b) fits ∙ and-false r.quick) (later (at ∙ is))

-- no rule decides, so none matches
pub none-decides : (rules : List Rule) (p : Packet) (dir : Dir) → deciding rules p dir ≡ None → NoneMatches rules p dir
none-decides rules p dir none = none-matches p dir rules 0 none

-- the rule that decides
pub decides : (rules : List Rule) (p : Packet) (dir : Dir) (e : ℕ × Rule) → deciding rules p dir ≡ Some e → Decides rules p dir e.0 e.1
decides rules p dir e is =
    let at = chosen-decides p dir rules 0 e is in
    let same : at.0 ≡ e.0 = let number = at.1 in omega (arith, number) in
    subst (λ (i : ℕ). Decides rules p dir i e.1) same at.2
