-- What holding and letting go keep of the held packets.
use Rattle.std.specs.Prelude.{refl, ◌≡◌, ℕ, zero, suc, List, ◌∷◌, Some, Bool, true, false, [], filter, ◌≤◌, length, map, ◌⊎◌, ◌++◌, not, find, None}
use Rattle.std.specs.Prelude.{◌||◌, ◌<◌, nat_le}
use Rattle.std.specs.Cmp.{IsEquivalence}
use Rattle.std.specs.List.{slice_get, AllByRecursion, IsDistinct, remove, list_any}
use Rattle.std.specs.Option.{option_map_or}
use Rattle.std.proofs.Common.{ap, arith, cond, inl, inr, ◌∙◌, sym, subst, length-append}
use Rattle.std.proofs.lemmas.Bool.Decides.{nat_tests}
use Rattle.std.proofs.lemmas.Map.Keys.{IsDistinct-head, IsDistinct-tail, IsDistinct-cons, IsDistinct-push}
use Rattle.pfl_base.specs.declared.state_name.StateName.{StateName}
use Rattle.pfl_base.specs.declared.packet.Packet.{Packet}
use Rattle.pfl_base.specs.Names.{is_name}
use Rattle.pfl_base.proofs.ForCallers.{is_name-same, is_name-itself}
use Rattle.pfl_defer.specs.declared.Held.{Held}
use Rattle.pfl_defer.specs.Deferring.{Deferrals, IsDeferrals, no_deferrals, let_go, IsUpTo, held_of, with_held, with_room}

-- the test of names says exactly whether they are one
pub names_alike : IsEquivalence is_name
names_alike = record {
  refl = λ x. is_name-itself x x refl;
  symm = λ x y. grind (arith, nat_tests);
  congr = λ x y z e. ap (λ (n : StateName). is_name n z) (is_name-same x y e);
}

-- ---- what a filter keeps

at_front : (h k : Held) (kept hs : List Held) → ((j : ℕ) → slice_get kept j ≡ Some k → (m : ℕ) × (slice_get hs m ≡ Some k)) → (j : ℕ)
    → slice_get (h ∷ kept) j ≡ Some k → (m : ℕ) × (slice_get (h ∷ hs) m ≡ Some k)
at_front h k kept hs rest zero e = (0, e)
at_front h k kept hs rest (suc j) e = let m = rest j e in (suc m.0, m.1)

-- what is kept stood in the list
pub kept_stood : (p : Held → Bool) (hs : List Held) (j : ℕ) (k : Held) → slice_get (filter p hs) j ≡ Some k → (m : ℕ) × (slice_get hs m ≡ Some k)
kept_stood p [] j k e = absurd (cc)
kept_stood p (h ∷ hs) j k e =
    elim (p h) as (λ b. slice_get (cond b (h ∷ filter p hs) (filter p hs)) j ≡ Some k → (m : ℕ) × (slice_get (h ∷ hs) m ≡ Some k)) [
      | true ↦ λ t. at_front h k (filter p hs) hs (λ i f. kept_stood p hs i k f) j t
      | false ↦ λ t. let m = kept_stood p hs j k t in (suc m.0, m.1)
    ] e

few_kept : (p : Held → Bool) (hs : List Held) → length (filter p hs) ≤ length hs
few_kept p [] = omega arith
few_kept p (h ∷ hs) =
    elim (p h) as (λ b. length (cond b (h ∷ filter p hs) (filter p hs)) ≤ length (h ∷ hs)) [
      | true ↦ omega (arith, few_kept p hs)
      | false ↦ omega (arith, few_kept p hs)
    ]

apart_kept : (P : StateName → Type 0) (p : Held → Bool) (hs : List Held) → AllByRecursion P (map (λ h. h.name) hs)
    → AllByRecursion P (map (λ h. h.name) (filter p hs))
apart_kept P p [] a = tt
apart_kept P p (h ∷ hs) a =
    elim (p h) as (λ b. AllByRecursion P (map (λ h. h.name) (cond b (h ∷ filter p hs) (filter p hs)))) [
      | true ↦ (a.0, apart_kept P p hs a.1)
      | false ↦ apart_kept P p hs a.1
    ]

once_kept : (p : Held → Bool) (hs : List Held) → IsDistinct is_name (map (λ h. h.name) hs) → IsDistinct is_name (map (λ h. h.name) (filter p hs))
once_kept p [] d = d
once_kept p (h ∷ hs) d =
    elim (p h) as (λ b. IsDistinct is_name (map (λ h. h.name) (cond b (h ∷ filter p hs) (filter p hs)))) [
      | true ↦ IsDistinct-cons is_name h.name _ (apart_kept (λ n. is_name h.name n ≡ false) p hs (IsDistinct-head is_name h.name _ d))
          (once_kept p hs (IsDistinct-tail is_name h.name _ d))
      | false ↦ once_kept p hs (IsDistinct-tail is_name h.name _ d)
    ]

-- ---- order by age

-- the oldest first
pub record IsByAge (hs : List Held) : Type 0 where
  pub by_age : (i j : ℕ) (h k : Held) → i ≤ j → slice_get hs i ≡ Some h → slice_get hs j ≡ Some k → h.held_at ≤ k.held_at

behind : (x : Held) (hs : List Held) → IsByAge (x ∷ hs) → IsByAge hs
behind x hs a = record { by_age = λ i j h k le e f. a.by_age (suc i) (suc j) h k (omega arith) e f }

oldest_first : (x : Held) (hs : List Held) → IsByAge hs → ((j : ℕ) (k : Held) → slice_get hs j ≡ Some k → x.held_at ≤ k.held_at)
    → (i j : ℕ) (h k : Held) → i ≤ j → slice_get (x ∷ hs) i ≡ Some h → slice_get (x ∷ hs) j ≡ Some k → h.held_at ≤ k.held_at
oldest_first x hs a below zero zero h k le e f = let same : h ≡ k = cc in omega (arith, ap (λ (z : Held). z.held_at) same)
oldest_first x hs a below zero (suc j) h k le e f = let same : x ≡ h = cc in omega (arith, below j k f, ap (λ (z : Held). z.held_at) same)
oldest_first x hs a below (suc i) zero h k le e f = absurd (omega arith)
oldest_first x hs a below (suc i) (suc j) h k le e f = a.by_age i j h k (omega arith) e f

by_age_kept : (p : Held → Bool) (hs : List Held) → IsByAge hs → IsByAge (filter p hs)
by_age_kept p [] a = a
by_age_kept p (x ∷ hs) a =
    elim (p x) as (λ b. IsByAge (cond b (x ∷ filter p hs) (filter p hs))) [
      | true ↦ record {
        by_age = oldest_first x (filter p hs) (by_age_kept p hs (behind x hs a))
            (λ j k e. let m = kept_stood p hs j k e in a.by_age 0 (suc m.0) x k (omega arith) refl m.1);
      }
      | false ↦ by_age_kept p hs (behind x hs a)
    ]

-- what stands in a list with one more at the end
pub last_cases : (hs : List Held) (y : Held) (j : ℕ) (k : Held) → slice_get (hs ++ y ∷ []) j ≡ Some k → (slice_get hs j ≡ Some k) ⊎ (y ≡ k)
last_cases [] y zero k e = inr (cc)
last_cases [] y (suc j) k e = absurd (cc)
last_cases (x ∷ hs) y zero k e = inl e
last_cases (x ∷ hs) y (suc j) k e = last_cases hs y j k e

by_age_more : (hs : List Held) (y : Held) → IsByAge hs → ((i : ℕ) (h : Held) → slice_get hs i ≡ Some h → h.held_at ≤ y.held_at) → IsByAge (hs ++ y ∷ [])
by_age_more [] y a up = record { by_age = oldest_first y [] (record { by_age = λ i j h k le e f. absurd (cc) }) (λ j k e. absurd (cc)) }
by_age_more (x ∷ hs) y a up = record {
  by_age = oldest_first x (hs ++ y ∷ []) (by_age_more hs y (behind x hs a) (λ i h e. up (suc i) h e))
      (λ j k e. elim (last_cases hs y j k e) [
        | inl f ↦ a.by_age 0 (suc j) x k (omega arith) refl f
        | inr same ↦ omega (arith, up 0 x refl, ap (λ (z : Held). z.held_at) same)
      ]);
}

-- ---- a name

-- where no packet of the name is held, none is let go
pub absent_stays : (name : StateName) (hs : List Held) → find (λ h. is_name name h.name) hs ≡ None → filter (λ h. not (is_name name h.name)) hs ≡ hs
absent_stays name [] e = refl
absent_stays name (h ∷ hs) e =
    elim (is_name name h.name) as (λ b. cond b (Some h) (find (λ h. is_name name h.name) hs) ≡ None
    → cond (not b) (h ∷ filter (λ h. not (is_name name h.name)) hs) (filter (λ h. not (is_name name h.name)) hs) ≡ h ∷ hs) [
      | true ↦ λ t. absurd (cc)
      | false ↦ λ t. ap (λ (ys : List Held). h ∷ ys) (absent_stays name hs t)
    ] e

apart_absent : (name : StateName) (hs : List Held) → AllByRecursion (λ n. is_name name n ≡ false) (map (λ h. h.name) hs)
    → find (λ h. is_name name h.name) hs ≡ None
apart_absent name [] a = refl
apart_absent name (h ∷ hs) a = ap (λ b. cond b (Some h) (find (λ h. is_name name h.name) hs)) a.0 ∙ apart_absent name hs a.1

apart_at : (name : StateName) (hs : List Held) (i : ℕ) (h : Held) → AllByRecursion (λ n. is_name name n ≡ false) (map (λ h. h.name) hs)
    → slice_get hs i ≡ Some h → is_name name h.name ≡ false
apart_at name [] i h a e = absurd (cc)
apart_at name (x ∷ hs) zero h a e = let same : x ≡ h = cc in ap (λ (z : Held). is_name name z.name) (sym same) ∙ a.0
apart_at name (x ∷ hs) (suc i) h a e = apart_at name hs i h a.1 e

-- a packet before that of a name has another name
other_before : (x : Held) (hs : List Held) (i : ℕ) (h : Held) → IsDistinct is_name (map (λ h. h.name) (x ∷ hs)) → slice_get hs i ≡ Some h
    → is_name h.name x.name ≡ false
other_before x hs i h d e = names_alike.symm h.name x.name ∙ apart_at x.name hs i h (IsDistinct-head is_name x.name _ d) e

-- to let the packet at a place go is to let that of its name go
pub let_go_place : (hs : List Held) (i : ℕ) (h : Held) → IsDistinct is_name (map (λ h. h.name) hs) → slice_get hs i ≡ Some h
    → filter (λ k. not (is_name h.name k.name)) hs ≡ remove hs i
let_go_place [] i h d e = absurd (cc)
let_go_place (x ∷ hs) zero h d e =
    let same : x ≡ h = cc in
    let own : is_name h.name x.name ≡ true = is_name-itself h.name x.name (ap (λ (z : Held). z.name) (sym same)) in
    let apart : AllByRecursion (λ n. is_name h.name n ≡ false) (map (λ h. h.name) hs) =
    subst (λ (z : Held). AllByRecursion (λ n. is_name z.name n ≡ false) (map (λ h. h.name) hs)) same (IsDistinct-head is_name x.name _ d) in
    ap (λ b. cond (not b) (x ∷ filter (λ k. not (is_name h.name k.name)) hs) (filter (λ k. not (is_name h.name k.name)) hs)) own
    ∙ absent_stays h.name hs (apart_absent h.name hs apart)
let_go_place (x ∷ hs) (suc i) h d e =
    ap (λ b. cond (not b) (x ∷ filter (λ k. not (is_name h.name k.name)) hs) (filter (λ k. not (is_name h.name k.name)) hs)) (other_before x hs i h d e)
    ∙ ap (λ (ys : List Held). x ∷ ys) (let_go_place hs i h (IsDistinct-tail is_name x.name _ d) e)

-- the packet at a place is that of its name
pub found_place : (hs : List Held) (i : ℕ) (h : Held) → IsDistinct is_name (map (λ h. h.name) hs) → slice_get hs i ≡ Some h
    → find (λ k. is_name h.name k.name) hs ≡ Some h
found_place [] i h d e = absurd (cc)
found_place (x ∷ hs) zero h d e =
    let same : x ≡ h = cc in
    ap (λ b. cond b (Some x) (find (λ k. is_name h.name k.name) hs)) (is_name-itself h.name x.name (ap (λ (z : Held). z.name) (sym same))) ∙ e
found_place (x ∷ hs) (suc i) h d e =
    ap (λ b. cond b (Some x) (find (λ k. is_name h.name k.name) hs)) (other_before x hs i h d e) ∙ found_place hs i h (IsDistinct-tail is_name x.name _ d) e

-- a name that is not held is not held after any was let go
pub absent_kept : (name : StateName) (p : Held → Bool) (hs : List Held) → find (λ h. is_name name h.name) hs ≡ None
    → find (λ h. is_name name h.name) (filter p hs) ≡ None
absent_kept name p [] e = refl
absent_kept name p (h ∷ hs) e =
    elim (is_name name h.name) as (λ b. is_name name h.name ≡ b → cond b (Some h) (find (λ h. is_name name h.name) hs) ≡ None
    → find (λ h. is_name name h.name) (filter p (h ∷ hs)) ≡ None) [
      | true ↦ λ t f. absurd (cc)
      | false ↦ λ t f. elim (p h) as (λ b. find (λ h. is_name name h.name) (cond b (h ∷ filter p hs) (filter p hs)) ≡ None) [
        | true ↦ ap (λ b. cond b (Some h) (find (λ h. is_name name h.name) (filter p hs))) t ∙ absent_kept name p hs f
        | false ↦ absent_kept name p hs f
      ]
    ] refl e

absent_any : (name : StateName) (hs : List Held) → find (λ h. is_name name h.name) hs ≡ None → list_any (is_name name) (map (λ h. h.name) hs) ≡ false
absent_any name [] e = refl
absent_any name (h ∷ hs) e =
    elim (is_name name h.name) as (λ b. is_name name h.name ≡ b → cond b (Some h) (find (λ h. is_name name h.name) hs) ≡ None
    → list_any (is_name name) (map (λ h. h.name) (h ∷ hs)) ≡ false) [
      | true ↦ λ t f. absurd (cc)
      | false ↦ λ t f. ap (λ b. b || list_any (is_name name) (map (λ h. h.name) hs)) t ∙ absent_any name hs f
    ] refl e

names_more : (hs : List Held) (y : Held) → map (λ h. h.name) (hs ++ y ∷ []) ≡ map (λ h. h.name) hs ++ y.name ∷ []
names_more [] y = refl
names_more (h ∷ hs) y = ap (λ (ns : List StateName). h.name ∷ ns) (names_more hs y)

-- ---- the held packets

by_age_of : (d : Deferrals) → IsDeferrals d → IsByAge d.list
by_age_of d is = record { by_age = is.by_age }

-- nothing held is as it is to be
pub no_deferrals-keeps : (limit : ℕ) → IsDeferrals (no_deferrals limit)
unfolding IsDistinct
no_deferrals-keeps limit = record { few = omega arith; once = tt; by_age = λ i j h k le e f. absurd (cc) }

-- letting go keeps the rest as it is to be
pub let_go-keeps : (d : Deferrals) (name : StateName) → IsDeferrals d → IsDeferrals (let_go d name)
let_go-keeps d name is =
    let p : Held → Bool = λ h. not (is_name name h.name) in
    let aged = by_age_kept p d.list (by_age_of d is) in
    record {
      few = omega (arith, few_kept p d.list, is.few);
      once = once_kept p d.list is.once;
      by_age = aged.by_age;
    }

-- a new packet, not older than the others and of a name that is not held, is held where there is room
pub with_held-keeps : (d : Deferrals) (name : StateName) (packet : Packet) (now : ℕ) → IsDeferrals d → length d.list < d.limit
    → held_of d name ≡ None → IsUpTo d now → IsDeferrals (with_held d name packet now)
with_held-keeps d name packet now is room fresh up =
    let y : Held = record { name = name; packet = packet; held_at = now } in
    let aged = by_age_more d.list y (by_age_of d is) up in
    record {
      few = omega (arith, room, length-append d.list (y ∷ []));
      once = subst (IsDistinct is_name) (sym (names_more d.list y))
          (IsDistinct-push names_alike (map (λ h. h.name) d.list) name is.once (absent_any name d.list fresh));
      by_age = aged.by_age;
    }

-- the others were held before now
pub let_go-up_to : (d : Deferrals) (name : StateName) (now : ℕ) → IsUpTo d now → IsUpTo (let_go d name) now
let_go-up_to d name now up i h e = let m = kept_stood (λ k. not (is_name name k.name)) d.list i h e in up m.0 h m.1

-- ---- room for one more

pub record HasRoom (d new : Deferrals) : Type 0 where
  pub is : IsDeferrals new
  pub room : length new.list < new.limit
  pub fresh : (name : StateName) → held_of d name ≡ None → held_of new name ≡ None
  pub up_to : (now : ℕ) → IsUpTo d now → IsUpTo new now

room_by : (b : Bool) (d : Deferrals) → nat_le d.limit (length d.list) ≡ b → IsDeferrals d → 0 < d.limit
    → HasRoom d (option_map_or (λ h. let_go d h.name) (cond b (slice_get d.list 0) None) d)
room_by false d e is some = record { is = is; room = grind (arith, nat_tests); fresh = λ name f. f; up_to = λ now u. u }
room_by true d e is some = first d.list refl
  where
    first : (hs : List Held) → d.list ≡ hs → HasRoom d (option_map_or (λ h. let_go d h.name) (slice_get hs 0) d)
    first [] l = absurd (grind (arith, nat_tests))
    first (h ∷ hs) l =
        let stands : slice_get d.list 0 ≡ Some h = ap (λ (ys : List Held). slice_get ys 0) l in
        let gone = let_go_place d.list 0 h is.once stands in
        record {
          is = let_go-keeps d h.name is;
          room = omega (
            arith,
            is.few,
            ap (λ (ys : List Held). length ys) (gone ∙ ap (λ (ys : List Held). remove ys 0) l),
            ap
                (λ (ys : List Held). length ys) l,
          );
          fresh = λ name f. absent_kept name (λ k. not (is_name h.name k.name)) d.list f;
          up_to = λ now u. let_go-up_to d h.name now u;
        }

-- with room, the rest is as it is to be
pub with_room-has_room : (d : Deferrals) → IsDeferrals d → 0 < d.limit → HasRoom d (with_room d)
with_room-has_room d is some = room_by (nat_le d.limit (length d.list)) d refl is some
