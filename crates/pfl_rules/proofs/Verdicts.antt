-- The verdict in one pass: what the rules that are left make of the verdict so far.
use Rattle.std.proofs.Common.{◌≡◌, ℕ, suc, ◌+◌, ◌<◌, ◌≤◌, Bool, true, false, ◌&&◌, nat_lt, Option, Some, None, List, [], ◌∷◌, length, get_or, drop}
use Rattle.std.proofs.Common.{drop-cons, add-one, filter, if◌then◌else◌, refl, sym, ◌∙◌, ap, arith}
use Rattle.std.proofs.lemmas.Bool.Decides.{nat_tests}
use Rattle.std.proofs.lemmas.List.{drop_all}
use Rattle.pfl_rules.specs.declared.fault.RuleFault.{RuleFault}
use Rattle.pfl_rules.specs.declared.fault.RuleFault.TheVariants.{TooMany}
use Rattle.std.specs.List.{enumerate_from}
use Rattle.pfl_base.specs.Lists.{up_to_first, last_of}
use Rattle.pfl_base.specs.declared.direction.Dir.{Dir}
use Rattle.pfl_base.specs.declared.packet.Packet.{Packet}
use Rattle.pfl_rules.specs.declared.rule.Rule.{Rule}
use Rattle.pfl_rules.specs.declared.verdict.Verdict.{Verdict}
use Rattle.pfl_rules.specs.Matching.{matches}
use Rattle.pfl_rules.specs.Rules.{looked_at, rule_fault, verdict, verdict_by}

-- the last element, or what came before
last_or : {X : Type 0} → Option X → List X → Option X
last_or o [] = o
last_or o (x ∷ xs) = last_or (Some x) xs

last_of-is : {X : Type 0} (xs : List X) → last_of xs ≡ last_or None xs
unfolding last_or
last_of-is [] = refl
last_of-is (x ∷ []) = refl
last_of-is (x ∷ y ∷ ys) = last_of-is (y ∷ ys)

module _ {X V : Type 0} (match quick : X → Bool) (out : Option (ℕ × X) → V) where
  -- what the elements from number n on make of the value so far
  later : V → ℕ → List X → V
  later so_far n [] = so_far
  later so_far n (x ∷ xs) =
      if match x
      then (if quick x then out (Some (n, x)) else later (out (Some (n, x))) (n + 1) xs)
      else later so_far (n + 1) xs

  last_match : Option (ℕ × X) → ℕ → List X → Option (ℕ × X)
  last_match o n xs = last_or o (filter (λ r. match r.1) (up_to_first (λ r. quick r.1 && match r.1) (enumerate_from n xs)))

  step : (o : Option (ℕ × X)) (n : ℕ) (x : X) (xs : List X) (b c : Bool) → match x ≡ b → quick x ≡ c
      → ((o : Option (ℕ × X)) → out (last_match o (n + 1) xs) ≡ later (out o) (n + 1) xs) → out (last_match o n (x ∷ xs)) ≡ later (out o) n (x ∷ xs)
  unfolding last_match later last_or
  step o n x xs true true m q rest = simp (m, q) refl
  step o n x xs true false m q rest = simp (m, q) (rest (Some (n, x)))
  step o n x xs false true m q rest = simp (m, q) (rest o)
  step o n x xs false false m q rest = simp (m, q) (rest o)

  last_match-is_later : (o : Option (ℕ × X)) (n : ℕ) (xs : List X) → out (last_match o n xs) ≡ later (out o) n xs
  unfolding last_match later last_or
  last_match-is_later o n [] = refl
  last_match-is_later o n (x ∷ xs) = step o n x xs (match x) (quick x) refl refl (λ p. last_match-is_later p (n + 1) xs)

-- what the rules from number n on make of the verdict so far
pub rest : Packet → Dir → Verdict → ℕ → List Rule → Verdict
rest p dir so_far n rules = later (λ r. matches r p dir) (λ r. r.quick) verdict_by so_far n rules

pub rest-whole : (p : Packet) (dir : Dir) (rules : List Rule) → rest p dir (verdict_by None) 0 rules ≡ verdict rules p dir
unfolding rest last_match
rest-whole p dir rules =
    sym (ap verdict_by (last_of-is (filter (λ r. matches r.1 p dir) (looked_at rules p dir)))
    ∙ last_match-is_later (λ r. matches r p dir) (λ r. r.quick) verdict_by None 0 rules)

module _ (p : Packet) (dir : Dir) (so_far : Verdict) (n : ℕ) where
  pub rest-end : rest p dir so_far n [] ≡ so_far
  unfolding rest later
  rest-end = refl

  pub rest-passed_by : (r : Rule) (rules : List Rule) → matches r p dir ≡ false → rest p dir so_far n (r ∷ rules) ≡ rest p dir so_far (n + 1) rules
  unfolding rest later
  rest-passed_by r rules unmatched = rw unmatched refl

  pub rest-taken : (r : Rule) (rules : List Rule) → matches r p dir ≡ true → r.quick ≡ false
      → rest p dir so_far n (r ∷ rules) ≡ rest p dir (verdict_by (Some (n, r))) (n + 1) rules
  unfolding rest later
  rest-taken r rules matched slow = rw (matched, slow) refl

  pub rest-quick : (r : Rule) (rules : List Rule) → matches r p dir ≡ true → r.quick ≡ true → rest p dir so_far n (r ∷ rules) ≡ verdict_by (Some (n, r))
  unfolding rest later
  rest-quick r rules matched quick = rw (matched, quick) refl

-- the same, one rule on, in a list of rules
module _ (p : Packet) (dir : Dir) (so_far : Verdict) (rules : List Rule) (n : ℕ) (r : Rule) (here : r ≡ get_or rules n r) (within : n < length rules) where
  from_here : rest p dir so_far n (drop n rules) ≡ rest p dir so_far n (r ∷ drop (n + 1) rules)
  from_here = rw add-one (ap (rest p dir so_far n) (drop-cons rules n r within ∙ ap (λ (x : Rule). x ∷ drop (suc n) rules) (sym here)))

  pub passed_by : matches r p dir ≡ false → rest p dir so_far (n + 1) (drop (n + 1) rules) ≡ rest p dir so_far n (drop n rules)
  passed_by unmatched = sym (from_here ∙ rest-passed_by p dir so_far n r _ unmatched)

  pub taken : matches r p dir ≡ true → r.quick ≡ false → rest p dir (verdict_by (Some (n, r))) (n + 1) (drop (n + 1) rules) ≡ rest p dir so_far n (drop n rules)
  taken matched slow = sym (from_here ∙ rest-taken p dir so_far n r _ matched slow)

  pub quick : matches r p dir ≡ true → r.quick ≡ true → verdict_by (Some (n, r)) ≡ rest p dir so_far n (drop n rules)
  quick matched fast = sym (from_here ∙ rest-quick p dir so_far n r _ matched fast)

pub ended : (p : Packet) (dir : Dir) (so_far : Verdict) (rules : List Rule) (n : ℕ) → length rules ≤ n → so_far ≡ rest p dir so_far n (drop n rules)
ended p dir so_far rules n done = sym (ap (rest p dir so_far n) (drop_all n rules done) ∙ rest-end p dir so_far n)

-- a rule set is small
few_of : (n : ℕ) (later : Option RuleFault) → (if nat_lt 256 n then Some TooMany else later) ≡ None → n ≤ 256
few_of n later faultless = grind (arith, nat_tests)

pub few : (rules : List Rule) → rule_fault rules ≡ None → length rules ≤ 256
few rules faultless = few_of (length rules) _ faultless
