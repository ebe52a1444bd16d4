-- Names by creator and then by id: their order is total, and its tests distinguish names.
use Rattle.std.specs.Prelude.{ℕ, ◌≡◌, true, refl, false}
use Rattle.std.specs.Cmp.{IsTotalOrder, nat_cmp_total}
use Rattle.std.specs.FinMap.{IsAntisymmetric}
use Rattle.std.specs.Ordering.{nat_cmp, is_eq, eq_by_cmp}
use Rattle.std.specs.declared.cmp.Ordering.{Ordering}
use Rattle.std.specs.declared.cmp.Ordering.TheVariants.{Less, Equal, Greater}
use Rattle.std.proofs.Common.{ap, sym, subst, T, arith, ◌∙◌}
use Rattle.std.proofs.lemmas.Bool.Decides.{nat_tests}
use Rattle.std.proofs.lemmas.Cmp.{on_total, then_total}
use Rattle.std.proofs.lemmas.Map.Lookups.{exact_pairs, exact_unsigned}
use Rattle.pfl_base.specs.declared.state_name.StateName.{StateName}
use Rattle.pfl_base.specs.Names.{name_cmp, is_name}

-- names that compare alike are one
pub names_exact : IsAntisymmetric name_cmp
names_exact a b h = ap (λ (p : ℕ × ℕ). record { creator = p.0; id = p.1 })
    (exact_pairs nat_cmp nat_cmp exact_unsigned exact_unsigned (a.creator, a.id) (b.creator, b.id) h)

pub names_total : IsTotalOrder name_cmp
names_total = then_total (on_total (λ n. n.creator) nat_cmp_total) (on_total (λ n. n.id) nat_cmp_total)

is_equal : (r : Ordering) → is_eq r ≡ true → r ≡ Equal
is_equal Less e = absurd (subst T (sym e) tt)
is_equal Equal e = refl
is_equal Greater e = absurd (subst T (sym e) tt)

parts_same : (a b : StateName) → a.creator ≡ b.creator → a.id ≡ b.id → a ≡ b
parts_same a b p q = λ i. record { creator = p i; id = q i }

pub is_name-same : (a b : StateName) → is_name a b ≡ true → a ≡ b
is_name-same a b e = parts_same a b (grind (arith, nat_tests)) (grind (arith, nat_tests))

pub is_name-itself : (a b : StateName) → a ≡ b → is_name a b ≡ true
is_name-itself a b e = grind (arith, nat_tests, ap (λ (n : StateName). n.creator) e, ap (λ (n : StateName). n.id) e)

-- names that differ do not tie
pub apart : (a b : StateName) → is_name a b ≡ false → eq_by_cmp name_cmp b a ≡ false
apart a b e = elim (eq_by_cmp name_cmp b a) as (λ t. eq_by_cmp name_cmp b a ≡ t → t ≡ false) [
  | true ↦ λ t. absurd (subst T (sym (is_name-itself a b (sym (names_exact b a (is_equal (name_cmp b a) t)))) ∙ e) tt)
  | false ↦ λ t. refl
] refl
