-- Keys are one flow where their numbers are one.
use Rattle.std.specs.Prelude.{◌≡◌, ◌↔◌, ℕ, IsTrue, Bool, true, false, ◌&&◌, ◌==◌, refl}
use Rattle.std.specs.Ordering.{eq_by_cmp}
use Rattle.std.proofs.Common.{T, ◌∙◌, ap, sym, subst, arith}
use Rattle.std.proofs.lemmas.Bool.Decides.{nat_tests}
use Rattle.pfl_base.specs.declared.addr.Addr.{Addr}
use Rattle.pfl_base.specs.declared.addr.Addr.TheVariants.{V4, V6}
use Rattle.pfl_base.specs.declared.flow.Key.{Key}
use Rattle.pfl_base.specs.Ends.{is_addr, is_end}
use Rattle.pfl_base.specs.Keys.{is_key}
use Rattle.pfl_edits.proofs.ForCallers.{own_key, same_key}
use Rattle.pfl_table.specs.inner.Ordering.{Flow, number_of, version_of, flow_of, flow_cmp, flow_total, flow_exact}

pub number_is : (m n : ℕ) → (m == n) ≡ true → m ≡ n
number_is m n e = grind (arith, nat_tests)

pub is_number : (m n : ℕ) → m ≡ n → (m == n) ≡ true
is_number m n e = grind (arith, nat_tests)

left : (a b : Bool) → (a && b) ≡ true → a ≡ true
left true b e = refl
left false b e = e

right : (a b : Bool) → (a && b) ≡ true → b ≡ true
right true b e = e
right false b e = absurd (subst T (sym e) tt)

both : (a b : Bool) → a ≡ true → b ≡ true → (a && b) ≡ true
both true b p q = q
both false b p q = p

-- addresses of one number and one version
addr_numbers : (a b : Addr) → is_addr a b ≡ true → (number_of a ≡ number_of b) × (version_of a ≡ version_of b)
addr_numbers (V4 m) (V4 n) e = (number_is m n e, refl)
addr_numbers (V4 m) (V6 n) e = absurd (subst T (sym e) tt)
addr_numbers (V6 m) (V4 n) e = absurd (subst T (sym e) tt)
addr_numbers (V6 m) (V6 n) e = (number_is m n e, refl)

numbers_addr : (a b : Addr) → number_of a ≡ number_of b → version_of a ≡ version_of b → is_addr a b ≡ true
numbers_addr (V4 m) (V4 n) e v = is_number m n e
numbers_addr (V4 m) (V6 n) e v = absurd (omega arith)
numbers_addr (V6 m) (V4 n) e v = absurd (omega arith)
numbers_addr (V6 m) (V6 n) e v = is_number m n e

key_numbers : (a b : Key) → is_key a b ≡ true → flow_of a ≡ flow_of b
key_numbers a b e =
    let proto = number_is _ _ (left _ _ (left _ _ e)) in
    let far : is_end a.far b.far ≡ true = right _ _ (left _ _ e) in
    let near : is_end a.near b.near ≡ true = right _ _ e in
    let far_addr = addr_numbers a.far.addr b.far.addr (left _ _ far) in
    let near_addr = addr_numbers a.near.addr b.near.addr (left _ _ near) in
    let far_port = number_is _ _ (right _ _ far) in
    let near_port = number_is _ _ (right _ _ near) in
    λ i. record {
      far = far_addr.0 i;
      near = near_addr.0 i;
      far_port = far_port i;
      near_port = near_port i;
      far_version = far_addr.1 i;
      near_version = near_addr.1 i;
      proto = proto i;
    }

numbers_key : (a b : Key) → flow_of a ≡ flow_of b → is_key a b ≡ true
numbers_key a b e =
    both _ _
    (both _ _ (is_number _ _ (ap (λ (f : Flow). f.proto) e))
    (both _ _ (numbers_addr a.far.addr b.far.addr (ap (λ (f : Flow). f.far) e) (ap (λ (f : Flow). f.far_version) e))
    (is_number _ _ (ap (λ (f : Flow). f.far_port) e))))
    (both _ _ (numbers_addr a.near.addr b.near.addr (ap (λ (f : Flow). f.near) e) (ap (λ (f : Flow). f.near_version) e))
    (is_number _ _ (ap (λ (f : Flow). f.near_port) e)))

pub same_test : (x y : Bool) → (x ≡ true → y ≡ true) → (y ≡ true → x ≡ true) → x ≡ y
same_test true y f g = sym (f refl)
same_test false true f g = g refl
same_test false false f g = refl

same_flow : (f g : Flow) → f ≡ g → eq_by_cmp flow_cmp f g ≡ true
same_flow f g e = subst (λ (h : Flow). eq_by_cmp flow_cmp f h ≡ true) e (own_key flow_total flow_exact (λ (h : Flow). h) f)

-- the test of keys is the one that the indexes make
pub key_is : (a b : Key) → is_key a b ≡ eq_by_cmp flow_cmp (flow_of b) (flow_of a)
key_is a b = same_test (is_key a b) (eq_by_cmp flow_cmp (flow_of b) (flow_of a))
    (λ e. same_flow (flow_of b) (flow_of a) (sym (key_numbers a b e)))
    (λ e. numbers_key a b (sym (same_key flow_total flow_exact (λ (h : Flow). h) (flow_of b) (flow_of a) e)))

-- and so is the test of a key that is kept
pub flow-is : (a b : Key) (test : Bool) → test ≡ is_key a b → IsTrue test ↔ (flow_of a ≡ flow_of b)
flow-is a b test is = (λ t. key_numbers a b (sym is ∙ t), λ flow. is ∙ numbers_key a b flow)
