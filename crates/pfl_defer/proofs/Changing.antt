-- What the calls on the held packets leave, over the fields of the code.
use Rattle.std.proofs.Common.{◌≡◌, ◌+◌, ◌≤◌, ◌<◌, ℕ, Bool, true, false, cond, not, List, [], ◌∷◌, ◌++◌, length, get_or, find, Option, Some, None, leb}
use Rattle.std.proofs.Common.{ltb, refl, sym, ◌∙◌, ap, subst, arith}
use Rattle.std.proofs.lemmas.Bool.Decides.{nat_tests}
use Rattle.std.proofs.lemmas.List.Quantifiers.{position-Some}
use Rattle.std.proofs.lemmas.Option.{slice_get-get_or, none-some}
use Rattle.std.specs.List.{slice_get, remove, position, prefix_len}
use Rattle.std.specs.Option.{option_map_or}
use Rattle.pfl_base.specs.declared.packet.Packet.{Packet}
use Rattle.pfl_base.specs.declared.state_name.StateName.{StateName}
use Rattle.pfl_base.specs.Names.{is_name}
use Rattle.pfl_base.proofs.ForCallers.{is_name-same}
use Rattle.pfl_defer.specs.declared.Held.{Held}
use Rattle.pfl_defer.specs.declared.edits.DeferEdit.TheVariants.{Added, Removed}
use Rattle.pfl_defer.specs.Deferring.{Deferrals, IsDeferrals, IsUpTo, held_of, let_go, pushed_out, with_room, with_held}
use Rattle.pfl_defer.specs.Edits.{DefersBack}
use Rattle.pfl_defer.proofs.Leading.{removed-leads_back, added-leads_back}
use Rattle.pfl_defer.proofs.Kept.{let_go-keeps, let_go_place, found_place, absent_stays, with_held-keeps}

-- the items are the list without the packet h, which stood at place i
pub record TakesOut (d : Deferrals) (i : ℕ) (h : Held) (name : StateName) (items : List Held) : Type 0 where
  pub found : held_of d name ≡ Some h
  pub list : ◌≡◌ {A = Deferrals} (record { limit = d.limit; list = items }) (let_go d name)
  pub kept : IsDeferrals (record { limit = d.limit; list = items })
  pub leads_back : DefersBack (Removed i h ∷ []) d (record { limit = d.limit; list = items })

-- a packet is taken out at its place
pub taken_out : (d : Deferrals) → IsDeferrals d → (i : ℕ) (h : Held) → slice_get d.list i ≡ Some h → (items : List Held)
    → items ≡ remove d.list i → TakesOut d i h h.name items
taken_out d is i h at items left =
    let same : ◌≡◌ {A = Deferrals} (record { limit = d.limit; list = items }) (let_go d h.name) =
    ap (λ (hs : List Held). record d { list = hs }) (left ∙ sym (let_go_place d.list i h is.once at)) in
    record {
      found = found_place d.list i h is.once at;
      list = same;
      kept = subst IsDeferrals (sym same) (let_go-keeps d h.name is);
      leads_back = subst (λ (new : Deferrals). DefersBack (Removed i h ∷ []) d new) (sym same) (removed-leads_back d i h is at);
    }

-- the packet of a name is taken out at its place
pub taken_out_named : (d : Deferrals) → IsDeferrals d → (name : StateName) (hs : List Held) → hs ≡ d.list → (i : ℕ)
    → Some i ≡ position (λ h. is_name name h.name) hs
    → (h : Held) → h ≡ get_or d.list i h → (items : List Held) → items ≡ remove d.list i → TakesOut d i h name items
taken_out_named d is name hs same i place h read items left =
    let at = position-Some (λ k. is_name name k.name) d.list i h (ap (position (λ k. is_name name k.name)) (sym same) ∙ sym place) in
    let own : name ≡ h.name = is_name-same name h.name (ap (λ (k : Held). is_name name k.name) read ∙ at.1) in
    subst (λ (n : StateName). TakesOut d i h n items) (sym own) (taken_out d is i h (slice_get-get_or d.list i h at.0 ∙ ap Some (sym read)) items left)

none_found : (p : Held → Bool) (hs : List Held) → (prefix_len (λ h. not (p h)) hs < length hs → None ≡ Some (prefix_len (λ h. not (p h)) hs)) → find p hs ≡ None
none_found p [] h = refl
none_found p (x ∷ hs) h = elim (p x) as (λ b. (cond (not b) (1 + prefix_len (λ h. not (p h)) hs) 0 < length (x ∷ hs)
    → None ≡ Some (cond (not b) (1 + prefix_len (λ h. not (p h)) hs) 0)) → cond b (Some x) (find p hs) ≡ None) [
      | true ↦ λ t. absurd (none-some _ (t (omega arith)))
      | false ↦ λ t. none_found p hs (λ lt. absurd (none-some _ (t (omega arith))))
    ] h

-- no place is found where the name is not held
pub none_named : (d : Deferrals) (name : StateName) (hs : List Held) → hs ≡ d.list → None ≡ position (λ h. is_name name h.name) hs → held_of d name ≡ None
none_named d name hs same none =
    ap (find (λ h. is_name name h.name)) (sym same)
    ∙ none_found (λ h. is_name name h.name) hs (λ lt. let test : ltb (prefix_len (λ h. not (is_name name h.name)) hs) (length hs)
    ≡ true = grind (arith, nat_tests) in none ∙ ap (λ b. cond b (Some (prefix_len (λ h. not (is_name name h.name)) hs)) None) test)

-- and then letting it go changes nothing
pub none_let_go : (d : Deferrals) (name : StateName) → held_of d name ≡ None → d ≡ let_go d name
none_let_go d name none = ap (λ (hs : List Held). record d { list = hs }) (sym (absent_stays name d.list none))

-- a full list lets its oldest go
pub full : (d : Deferrals) → d.limit ≤ length d.list → (h : Held) → slice_get d.list 0 ≡ Some h → (pushed_out d ≡ Some h) × (with_room d ≡ let_go d h.name)
full d le h at =
    let test : leb d.limit (length d.list) ≡ true = grind (arith, nat_tests) in
    let out : pushed_out d ≡ Some h = ap (λ b. cond b (slice_get d.list 0) None) test ∙ at in
    (out, ap (λ (o : Option Held). option_map_or (λ k. let_go d k.name) o d) out)

-- the items are the list with one more packet
pub record Appends (d : Deferrals) (name : StateName) (packet : Packet) (now : ℕ) (items : List Held) : Type 0 where
  pub list : ◌≡◌ {A = Deferrals} (record { limit = d.limit; list = items }) (with_held d name packet now)
  pub kept : IsDeferrals (record { limit = d.limit; list = items })
  pub leads_back : DefersBack (Added (length d.list) (record { name = name; packet = packet; held_at = now }) ∷ []) d (record { limit = d.limit; list = items })

-- a packet is put after the others. `asked` is the whole value, of which d are the fields
pub appended : (d whole : Deferrals) → d ≡ whole → IsDeferrals d → (name : StateName) (packet : Packet) (now : ℕ)
    → length whole.list < whole.limit → held_of whole name ≡ None → IsUpTo whole now
    → (y : Held) → y ≡ record { name = name; packet = packet; held_at = now } → (items : List Held) → items ≡ d.list ++ y ∷ [] → Appends d name packet now items
appended d whole fields is name packet now room fresh later y made items more =
    let same : ◌≡◌ {A = Deferrals} (record { limit = d.limit; list = items }) (with_held d name packet now) =
    ap (λ (hs : List Held). record d { list = hs }) (more ∙ ap (λ (h : Held). d.list ++ h ∷ []) made) in
    let back = sym fields in
    record {
      list = same;
      kept = subst IsDeferrals (sym same)
          (with_held-keeps d name packet now is (subst (λ (m : Deferrals). length m.list < m.limit) back room)
          (subst (λ (m : Deferrals). held_of m name ≡ None) back fresh) (subst (λ (m : Deferrals). IsUpTo m now) back later));
      leads_back = subst (λ (new : Deferrals). DefersBack (Added (length d.list) (record { name = name; packet = packet; held_at = now })
          ∷ []) d new) (sym same) (added-leads_back d name packet now is);
    }
