-- What single bytes and numbers stand for, there and back.
use Rattle.std.proofs.Common.{◌≡◌, ℕ, zero, suc, ◌+◌, ◌-◌, ◌^◌, ◌<◌, ◌≤◌, Bool, true, false, cond, List, [], ◌∷◌, Option, Some, None, Result, Ok, Err}
use Rattle.std.proofs.Common.{refl, sym, ap, subst, ◌∙◌, arith, inl, inr, ◌⊎◌}
use Rattle.std.specs.Prelude.{◌==◌, nat_le, IfSome, find, slice_get, unwrap_or}
use Rattle.std.specs.Option.{ok_or}
use Rattle.std.proofs.lemmas.Bool.{eqb-true}
use Rattle.std.proofs.lemmas.Bool.Decides.{nat_tests}
use Rattle.pfl_base.specs.declared.addr.Addr.{Addr}
use Rattle.pfl_base.specs.declared.addr.Addr.TheVariants.{V4, V6}
use Rattle.pfl_base.specs.declared.direction.Dir.{Dir}
use Rattle.pfl_base.specs.declared.direction.Dir.TheVariants.{Inbound, Outbound}
use Rattle.pfl_base.specs.declared.proto.Proto.TheVariants.{Tcp, Udp, Icmp, Other}
use Rattle.pfl_base.specs.declared.class.Class.{Class}
use Rattle.pfl_base.specs.declared.class.Class.TheVariants.{TcpFirst, TcpOpening, TcpEstablished, TcpClosing, TcpFinWait, TcpClosed, UdpFirst}
use Rattle.pfl_base.specs.declared.class.Class.TheVariants.{UdpSingle, UdpMultiple, IcmpFirst, IcmpError, OtherFirst, OtherSingle, OtherMultiple}
use Rattle.pfl_base.specs.Ends.{proto_number, proto_of, is_v4, same_family}
use Rattle.pfl_base.specs.Classes.{class_number, class_of, classes}
use Rattle.pfl_wire.specs.declared.action.Action.{Action}
use Rattle.pfl_wire.specs.declared.action.Action.TheVariants as action
use Rattle.pfl_wire.specs.declared.message.BulkStatus.{BulkStatus}
use Rattle.pfl_wire.specs.declared.message.BulkStatus.TheVariants.{Start, End as Finish}
use Rattle.pfl_wire.specs.declared.fault.BadFrame.{BadFrame}
use Rattle.pfl_wire.specs.declared.fault.BadFrame.TheVariants as bad
use Rattle.pfl_wire.specs.Actions.{action_number, action_with, actions}
use Rattle.pfl_wire.specs.Spelling.{scale_byte, family_byte, dir_byte, flags_byte, status_byte}
use Rattle.pfl_wire.specs.Fields.{scale_of, is_v4_of, dir_of, ack_wanted_of, status_of, rule_of}

-- the way that a test went
pub chosen : {A : Type 0} (b : Bool) (x y z : A) → cond b x y ≡ z → ((b ≡ true) × (x ≡ z)) ⊎ ((b ≡ false) × (y ≡ z))
chosen true x y z e = inl (refl, e)
chosen false x y z e = inr (refl, e)

abbrev answer : {A : Type 0} → A → Result A BadFrame
answer x = Ok x

value_is : {A : Type 0} (x y : A) → answer x ≡ answer y → x ≡ y
value_is x y e = cc

no_value : {A : Type 0} (f : BadFrame) (y : A) → Err f ≡ answer y → ⊥
no_value f y e = absurd cc

-- two numbers that stand for two values, and no other does
two : {A : Type 0} (p q n : ℕ) (x y z : A) (number : A → ℕ) → number x ≡ p → number y ≡ q
    → cond (n == p) (Ok x) (cond (n == q) (Ok y) (Err bad.Value)) ≡ Ok z → number z ≡ n
two p q n x y z number px qy e = elim (chosen (n == p) (Ok x) (cond (n == q) (Ok y) (Err bad.Value)) (Ok z) e) [
  | inl h ↦ ap number (sym (value_is x z h.1)) ∙ px ∙ sym (eqb-true n p h.0)
  | inr h ↦ elim (chosen (n == q) (Ok y) (Err bad.Value) (Ok z) h.1) [
    | inl k ↦ ap number (sym (value_is y z k.1)) ∙ qy ∙ sym (eqb-true n q k.0)
    | inr k ↦ absurd (no_value bad.Value z k.1)
  ]
]

pub family_back : (n : ℕ) (v4 : Bool) (a : Addr) → is_v4_of n ≡ Ok v4 → is_v4 a ≡ v4 → family_byte a ≡ n
family_back n v4 a e is = ap (λ (v : Bool). cond v 4 6) is ∙ two 4 6 n true false v4 (λ v. cond v 4 6) refl refl e

pub dir_back : (n : ℕ) (d : Dir) → dir_of n ≡ Ok d → dir_byte d ≡ n
dir_back n d e = two 1 2 n Inbound Outbound d dir_byte refl refl e

pub flags_back : (n : ℕ) (b : Bool) → ack_wanted_of n ≡ Ok b → flags_byte b ≡ n
flags_back n b e = two 0 1 n false true b flags_byte refl refl e

pub status_back : (n : ℕ) (s : BulkStatus) → status_of n ≡ Ok s → status_byte s ≡ n
status_back n s e = two 1 2 n Start Finish s status_byte refl refl e

pub scale_back : (n : ℕ) (o : Option ℕ) → scale_of n ≡ Ok o → (scale_byte o ≡ n) × IfSome o (λ s. s ≤ 14)
scale_back n o e = elim (chosen (n == 255) (Ok None) (cond (nat_le n 14) (Ok (Some n)) (Err bad.Value)) (Ok o) e) [
  | inl h ↦ subst (λ (o : Option ℕ). (scale_byte o ≡ n) × IfSome o (λ s. s ≤ 14)) (value_is None o h.1) (sym (eqb-true n 255 h.0), tt)
  | inr h ↦ elim (chosen (nat_le n 14) (Ok (Some n)) (Err bad.Value) (Ok o) h.1) [
    | inl k ↦ subst (λ (o : Option ℕ). (scale_byte o ≡ n) × IfSome o (λ s. s ≤ 14)) (value_is (Some n) o k.1) (refl, small n 14 k.0)
    | inr k ↦ absurd (no_value bad.Value o k.1)
  ]
]
  where
    small : (n m : ℕ) → nat_le n m ≡ true → n ≤ m
    small n m e = grind (arith, nat_tests)

pub scale_again : (o : Option ℕ) → IfSome o (λ s. s ≤ 14) → scale_of (scale_byte o) ≡ Ok o
scale_again None h = refl
scale_again (Some n) h = within n h
  where
    within : (n : ℕ) → n ≤ 14 → scale_of n ≡ Ok (Some n)
    within n h = grind (arith, nat_tests)

pub family_again : (a : Addr) → is_v4_of (family_byte a) ≡ Ok (is_v4 a)
family_again (V4 a) = refl
family_again (V6 a) = refl

pub dir_again : (d : Dir) → dir_of (dir_byte d) ≡ Ok d
dir_again Inbound = refl
dir_again Outbound = refl

pub flags_again : (b : Bool) → ack_wanted_of (flags_byte b) ≡ Ok b
flags_again true = refl
flags_again false = refl

pub status_again : (s : BulkStatus) → status_of (status_byte s) ≡ Ok s
status_again Start = refl
status_again Finish = refl

pub one_family : (a b : Addr) (v4 : Bool) → is_v4 a ≡ v4 → is_v4 b ≡ v4 → same_family a b ≡ true
one_family (V4 a) (V4 b) v4 p q = refl
one_family (V6 a) (V6 b) v4 p q = refl
one_family (V4 a) (V6 b) v4 p q = q ∙ sym p
one_family (V6 a) (V4 b) v4 p q = p ∙ sym q

pub family_same : (a b : Addr) → same_family a b ≡ true → is_v4 b ≡ is_v4 a
family_same (V4 a) (V4 b) h = refl
family_same (V6 a) (V6 b) h = refl
family_same (V4 a) (V6 b) h = h
family_same (V6 a) (V4 b) h = sym h

pub proto_back : (n : ℕ) → proto_number (proto_of n) ≡ n
proto_back n = elim (chosen (n == 6) Tcp (cond (n == 17) Udp (cond (n == 1) Icmp (Other n))) (proto_of n) refl) [
  | inl h ↦ ap proto_number (sym h.1) ∙ sym (eqb-true n 6 h.0)
  | inr h ↦ ap proto_number (sym h.1) ∙ elim (chosen (n == 17) Udp (cond (n == 1) Icmp (Other n)) _ refl) [
    | inl k ↦ ap proto_number (sym k.1) ∙ sym (eqb-true n 17 k.0)
    | inr k ↦ ap proto_number (sym k.1) ∙ elim (chosen (n == 1) Icmp (Other n) _ refl) [
      | inl m ↦ ap proto_number (sym m.1) ∙ sym (eqb-true n 1 m.0)
      | inr m ↦ ap proto_number (sym m.1)
    ]
  ]
]

pub rule_back : (n : ℕ) → n < 2 ^ 32 → (unwrap_or (rule_of n) 4294967295 ≡ n) × IfSome (rule_of n) (λ r. r < 2 ^ 32 - 1)
rule_back n lt = elim (chosen (n == 4294967295) None (Some n) (rule_of n) refl) [
  | inl h ↦ subst (λ (o : Option ℕ). (unwrap_or o 4294967295 ≡ n) × IfSome o (λ r. r < 2 ^ 32 - 1)) h.1 (sym (eqb-true n 4294967295 h.0), tt)
  | inr h ↦ subst (λ (o : Option ℕ). (unwrap_or o 4294967295 ≡ n) × IfSome o (λ r. r < 2 ^ 32 - 1)) h.1 (refl, below n lt h.0)
]
  where
    below : (n : ℕ) → n < 2 ^ 32 → (n == 4294967295) ≡ false → n < 2 ^ 32 - 1
    below n lt e = grind (arith, nat_tests)

pub rule_again : (o : Option ℕ) → IfSome o (λ r. r < 2 ^ 32 - 1) → rule_of (unwrap_or o 4294967295) ≡ o
rule_again None h = refl
rule_again (Some n) h = within n h
  where
    within : (n : ℕ) → n < 2 ^ 32 - 1 → rule_of n ≡ Some n
    within n h = grind (arith, nat_tests)

some_is : {A : Type 0} (a b : A) → Some a ≡ Some b → a ≡ b
some_is a b e = cc

-- what is found passes
found_passes : {A : Type 0} (p : A → Bool) (xs : List A) (x : A) → find p xs ≡ Some x → p x ≡ true
found_passes p [] x e = absurd cc
found_passes p (y ∷ xs) x e = elim (chosen (p y) (Some y) (find p xs) (Some x) e) [
  | inl h ↦ subst (λ (z : _). p z ≡ true) (some_is y x h.1) h.0
  | inr h ↦ found_passes p xs x h.1
]

-- the value after an option that was there
pub ok_or_ok : {A : Type 0} (o : Option A) (f : BadFrame) (x : A) → ok_or o f ≡ Ok x → o ≡ Some x
ok_or_ok (Some y) f x e = cc
ok_or_ok None f x e = absurd cc

-- classes whose numbers count up
abbrev AreNumbered : ℕ → List Class → Type 0
AreNumbered k [] = Unit {0}
AreNumbered k (c ∷ cs) = (class_number c ≡ k) × AreNumbered (suc k) cs

number_at_place : (k : ℕ) (cs : List Class) (n : ℕ) (c : Class) → AreNumbered k cs → slice_get cs n ≡ Some c → class_number c ≡ k + n
number_at_place k [] n c are e = absurd cc
number_at_place k (d ∷ cs) zero c are e = ap class_number (some_is c d (sym e)) ∙ are.0 ∙ omega arith
number_at_place k (d ∷ cs) (suc n) c are e = number_at_place (suc k) cs n c are.1 e ∙ omega arith

numbered : AreNumbered 0 classes
numbered = (refl, (refl, (refl, (refl, (refl, (refl, (refl, (refl, (refl, (refl, (refl, (refl, (refl, (refl, tt))))))))))))))

pub class_back : (n : ℕ) (c : Class) → class_of n ≡ Some c → class_number c ≡ n
class_back n c e = number_at_place 0 classes n c numbered e ∙ omega arith

pub class_again : (c : Class) → class_of (class_number c) ≡ Some c
class_again TcpFirst = refl
class_again TcpOpening = refl
class_again TcpEstablished = refl
class_again TcpClosing = refl
class_again TcpFinWait = refl
class_again TcpClosed = refl
class_again UdpFirst = refl
class_again UdpSingle = refl
class_again UdpMultiple = refl
class_again IcmpFirst = refl
class_again IcmpError = refl
class_again OtherFirst = refl
class_again OtherSingle = refl
class_again OtherMultiple = refl

pub action_back : (n : ℕ) (a : Action) → action_with n ≡ Some a → action_number a ≡ n
action_back n a e = eqb-true _ _ (found_passes (λ k. action_number k == n) actions a e)

pub action_again : (a : Action) → action_with (action_number a) ≡ Some a
action_again action.Clear = refl
action_again action.Insert = refl
action_again action.InsertAck = refl
action_again action.Update = refl
action_again action.UpdateShort = refl
action_again action.UpdateRequest = refl
action_again action.Delete = refl
action_again action.DeleteShort = refl
action_again action.Bulk = refl
