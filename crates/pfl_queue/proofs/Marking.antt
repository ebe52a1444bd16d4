-- Marks at slots: what is found stands there, and all is kept when a mark comes or goes.
use Rattle.std.specs.Prelude.{◌≡◌, ◌≢◌, ℕ, zero, suc, ◌+◌, ◌<◌, ◌≤◌, ◌^◌, Bool, true, false, List, [], ◌∷◌, ◌++◌, length, map, get_or, Option, Some}
use Rattle.std.specs.Prelude.{None, IfSome, is_some, refl}
use Rattle.std.specs.Option.{option_map}
use Rattle.std.specs.declared.cmp.Ordering.{Ordering}
use Rattle.std.specs.Ordering.{eq_by_cmp}
use Rattle.std.proofs.Common.{cond, ◌∙◌, ap, sym, subst, arith}
use Rattle.std.proofs.lemmas.List.{length-map, map-append}
use Rattle.pfl_base.specs.declared.state_name.StateName.{StateName}
use Rattle.pfl_base.specs.Names.{name_cmp}
use Rattle.pfl_base.proofs.ForCallers.{names_total, names_exact}
use Rattle.pfl_edits.specs.Maps as maps
use Rattle.pfl_edits.specs.Maps.{Map, set_at}
use Rattle.pfl_edits.proofs.ForCallers.{len-insert, get-set_at_same, get-set_at_other, set_at-set_at, set_at-same, row_at, Distinct, get-map_of}
use Rattle.pfl_edits.proofs.ForCallers.{len-map_of, map_of-between, map_of-without, some_is_none}
use Rattle.pfl_edits.specs.Rows.{map_of}
use Rattle.pfl_containers.specs.OrderEntries.{EntryList as TurnList}
use Rattle.pfl_containers.specs.Lists.{AreLists, Link, link, Lists, Place, links_of, with_links, count_of}
use Rattle.pfl_containers.specs.SlotIndexes.{IsIndex, IsTagged, HasNone, key_of}
use Rattle.pfl_containers.specs.Slots.{Tags, HasTag}
use Rattle.pfl_containers.proofs.ForCallers.{Place-new, length-with_links, key_of_row, found-stands, stands-found, others-none, index-new, gained}
use Rattle.pfl_containers.proofs.ForCallers.{lost, tagged-gained, tagged-has, tagged-lost, tagged-new, tagged-stands}
use Rattle.pfl_queue.specs.declared.Kind.{Kind}
use Rattle.pfl_queue.specs.declared.Kind.TheVariants.{Insert, InsertAck, Update, UpdateShort, Delete}
use Rattle.pfl_queue.specs.declared.Mark.{Mark}
use Rattle.pfl_queue.specs.declared.marks.Turn.{Turn}
use Rattle.pfl_queue.specs.inner.Rising.{IsRising, HasNone as NoNumber, InsertsInOrder, OrderedGap}
use Rattle.pfl_queue.specs.inner.Marked.{slot_of_link, mark_of_link, mark_name, mark_number, name_tag, turn_of, turn_cmp, turn_total, turn_exact}
use Rattle.pfl_queue.specs.inner.Marked.{all_links, listed, marks_of, slot_named, AreOfKind, AreTagged, AreInTurn, AreOrdered, AreMarked, IsNew}
use Rattle.pfl_queue.specs.inner.Marked.{AreApart}
use Rattle.pfl_queue.specs.Taking.{kind_place}
use Rattle.pfl_queue.proofs.Gaps.{IsRising-without, gap-ordered}
use Rattle.pfl_queue.proofs.Joined.{count-all, around, place, each_list}

-- ---- the marks by their names

mapped : {X Y : Type 0} (f : X → Y) (b : Bool) (x : X) (o : Option X) → cond b (Some (f x)) (option_map f o) ≡ option_map f (cond b (Some x) o)
mapped f true x o = refl
mapped f false x o = refl

row_at-map : {X Y K : Type 0} (R : K → K → Ordering) (f : X → Y) (key : Y → K) (xs : List X) (q : K)
    → row_at R key (map f xs) q ≡ option_map f (row_at R (λ x. key (f x)) xs q)
row_at-map R f key [] q = refl
row_at-map R f key (x ∷ xs) q =
    ap (cond (eq_by_cmp R q (key (f x))) (Some (f x))) (row_at-map R f key xs q)
    ∙ mapped f (eq_by_cmp R q (key (f x))) x (row_at R (λ y. key (f y)) xs q)

-- what stands under a name
pub get-marks_of : (lists : List (List (Link Mark))) (q : StateName)
    → maps.get (marks_of lists) q ≡ option_map mark_of_link (row_at name_cmp (key_of mark_name) (all_links lists) q)
get-marks_of lists q = get-map_of names_total names_exact mark_name (listed lists) q ∙ row_at-map name_cmp mark_of_link mark_name (all_links lists) q

-- a name that no link has
no-mark : (links : List (Link Mark)) (name : StateName) → HasNone name_cmp mark_name links name → row_at name_cmp mark_name (map mark_of_link links) name ≡ None
no-mark links name none = row_at-map name_cmp mark_of_link mark_name links name ∙ ap (option_map mark_of_link) none

none_before : (o : Option (Link Mark)) → option_map mark_of_link o ≡ None → o ≡ None
none_before None e = refl
none_before (Some l) e = absurd (some_is_none l.value e)

pub no-link : (lists : List (List (Link Mark))) (name : StateName) → maps.get (marks_of lists) name ≡ None → HasNone name_cmp mark_name (all_links lists) name
no-link lists name none = none_before (row_at name_cmp (key_of mark_name) (all_links lists) name) (sym (get-marks_of lists name) ∙ none)

pub apart-marks : (links : List (Link Mark)) → Distinct name_cmp (key_of mark_name) links → Distinct name_cmp mark_name (map mark_of_link links)
apart-marks [] d = tt
apart-marks (x ∷ links) d = (no-mark links x.value.name d.0, apart-marks links d.1)

-- the marks stand in turn
pub marked-turn : (c : Lists Mark) (names : Tags) (order : TurnList Turn ℕ) → AreMarked c names order → AreInTurn c
marked-turn c names order kept =
    record {
      five = kept.ordered.five;
      kinds = kept.ordered.kinds;
      rising = kept.ordered.rising;
      apart = apart-marks (all_links c.lists) kept.tagged.apart;
    }

-- a mark more, and one less
marks-with : (f : List (Link Mark)) (x : Link Mark) (b : List (Link Mark)) → row_at name_cmp mark_name (map mark_of_link (f ++ b)) x.value.name ≡ None
    → map_of name_cmp mark_name (map mark_of_link (f ++ x ∷ b)) ≡ maps.insert (map_of name_cmp mark_name (map mark_of_link (f ++ b))) x.value.name x.value
marks-with f x b none =
    let there : row_at name_cmp mark_name (map mark_of_link f ++ map mark_of_link b) x.value.name ≡ None =
    ap (λ (ms : List Mark). row_at name_cmp mark_name ms x.value.name) (sym (map-append mark_of_link f b)) ∙ none in
    ap (map_of name_cmp mark_name) (map-append mark_of_link f (x ∷ b))
    ∙ (map_of-between names_total names_exact mark_name (map mark_of_link f) x.value (map mark_of_link b) there
    ∙ ap (λ (ms : List Mark). maps.insert (map_of name_cmp mark_name ms) x.value.name x.value) (sym (map-append mark_of_link f b)))

marks-without : (f : List (Link Mark)) (x : Link Mark) (b : List (Link Mark)) → row_at name_cmp mark_name (map mark_of_link (f ++ b)) x.value.name ≡ None
    → map_of name_cmp mark_name (map mark_of_link (f ++ b)) ≡ maps.remove (map_of name_cmp mark_name (map mark_of_link (f ++ x ∷ b))) x.value.name
marks-without f x b none =
    let there : row_at name_cmp mark_name (map mark_of_link f ++ map mark_of_link b) x.value.name ≡ None =
    ap (λ (ms : List Mark). row_at name_cmp mark_name ms x.value.name) (sym (map-append mark_of_link f b)) ∙ none in
    ap (map_of name_cmp mark_name) (map-append mark_of_link f b)
    ∙ (map_of-without names_total names_exact mark_name (map mark_of_link f) x.value (map mark_of_link b) there
    ∙ ap (λ (ms : List Mark). maps.remove (map_of name_cmp mark_name ms) x.value.name) (sym (map-append mark_of_link f (x ∷ b))))

-- ---- where the mark of a name stands

pub record NamePlace (c : Lists Mark) (slot : ℕ) (name : StateName) : Type 0 where
  pub at : Place c slot
  pub is : row_at name_cmp (key_of mark_name) (all_links c.lists) name ≡ Some (link slot at.value)
  pub named : at.value.name ≡ name

module _ (c : Lists Mark) where
  -- what a search finds
  pub name-place : (name : StateName) (slot : ℕ) → Some slot ≡ slot_named (all_links c.lists) name → NamePlace c slot name
  name-place name slot is = through (row_at name_cmp (key_of mark_name) (all_links c.lists) name) refl is
    where
      through : (at : Option (Link Mark)) → row_at name_cmp (key_of mark_name) (all_links c.lists) name ≡ at
          → Some slot ≡ option_map slot_of_link at → NamePlace c slot name
      through None e found = absurd (some_is_none slot found)
      through (Some l) e found =
          let same : l.slot ≡ slot = cc in
          let s = found-stands name_cmp mark_name (all_links c.lists) name l e in
          let split : all_links c.lists ≡ s.front ++ link slot l.value ∷ s.back = s.split ∙ ap (λ n. s.front ++ link n l.value ∷ s.back) same in
          let p = place c slot l.value (record { front = s.front; back = s.back; split = split }) in
          record {
            at = p.at;
            is = e ∙ (ap (λ n. Some (link n l.value)) same ∙ ap (λ (v : Mark). Some (link slot v)) (sym p.is));
            named = ap (λ (v : Mark). v.name) p.is ∙ key_of_row names_total names_exact (key_of mark_name) (all_links c.lists) name l e;
          }

  -- what is read there
  pub found-mark : (name : StateName) (slot : ℕ) (p : NamePlace c slot name) (v : Mark) → v ≡ p.at.value → Some v ≡ maps.get (marks_of c.lists) name
  found-mark name slot p v is = ap Some is ∙ sym (get-marks_of c.lists name ∙ ap (option_map mark_of_link) p.is)

  -- and that none is there
  pub no-name : (name : StateName) → None ≡ slot_named (all_links c.lists) name → maps.get (marks_of c.lists) name ≡ None
  no-name name is = get-marks_of c.lists name ∙ through (row_at name_cmp (key_of mark_name) (all_links c.lists) name) is
    where
      through : (at : Option (Link Mark)) → None ≡ option_map slot_of_link at → option_map mark_of_link at ≡ None
      through None found = refl
      through (Some l) found = absurd (some_is_none l.slot (sym found))

  -- then nothing is taken off
  pub none-less : (name : StateName) → None ≡ slot_named (all_links c.lists) name → marks_of c.lists ≡ maps.remove (marks_of c.lists) name
  none-less name none = sym (set_at-same names_total names_exact (marks_of c.lists) name None (no-name name none))

module _ (c : Lists Mark) (names : Tags) (order : TurnList Turn ℕ) (kept : AreMarked c names order) where
  -- as many marks as links
  pub len-marks : maps.len (marks_of c.lists) ≡ count_of c.lists
  len-marks =
      len-map_of names_total names_exact mark_name (listed c.lists) (apart-marks (all_links c.lists) kept.tagged.apart)
      ∙ (length-map (all_links c.lists) mark_of_link ∙ sym (count-all c.lists))

  -- the tag of a name is at the slot of its mark
  pub name-tagged : (name : StateName) (slot : ℕ) → NamePlace c slot name → (t : ℕ) → t ≡ name_tag name → HasTag names.tags t slot
  name-tagged name slot p t is =
      let a = around c.lists p.at.list p.at.front p.at.back p.at.within in
      let l = link slot p.at.value in
      let tagged = subst (λ (ls : List (Link Mark)). IsTagged name_cmp mark_name name_tag ls names.tags) (a.was (l ∷ []) p.at.split) kept.tagged in
      tagged-has names_total names_exact mark_name name_tag a.before l a.behind names.tags tagged ∙ (ap (λ n. Some (name_tag n)) p.named ∙ ap Some (sym is))

  -- and a slot that has no mark has no tag
  pub fresh-untagged : (slot : ℕ) → (Place c slot → ⊥) → maps.get names.tags slot ≡ None
  fresh-untagged slot fresh = through (maps.get names.tags slot) refl
    where
      through : (at : Option ℕ) → maps.get names.tags slot ≡ at → at ≡ None
      through None is = refl
      through (Some t) is =
          let s = tagged-stands names_total names_exact mark_name name_tag (all_links c.lists) names.tags slot t kept.tagged is in
          absurd (fresh (place c slot s.0 s.1).at)

-- ---- a mark goes

kind-without : (k : ℕ) (f : List (Link Mark)) (x : Link Mark) (b : List (Link Mark)) → AreOfKind k (f ++ x ∷ b) → AreOfKind k (f ++ b)
kind-without k [] x b all = all.1
kind-without k (y ∷ f) x b all = (all.0, kind-without k f x b all.1)

kind-with : (k : ℕ) (f : List (Link Mark)) (x : Link Mark) (b : List (Link Mark)) → kind_place x.value.kind ≡ k → AreOfKind k (f ++ b)
    → AreOfKind k (f ++ x ∷ b)
kind-with k [] x b is all = (is, all)
kind-with k (y ∷ f) x b is all = (all.0, kind-with k f x b is all.1)

module _ (c new : Lists Mark) (names : Tags) (order : TurnList Turn ℕ) (kept : AreMarked c names order) (name : StateName) (slot : ℕ)
    (p : NamePlace c slot name)
    (gone : new ≡ with_links c p.at.list (p.at.front ++ p.at.back)) where
  abbrev gone_link : Link Mark
  gone_link = link slot p.at.value

  pub marked-less : (now : Tags) → now.tags ≡ maps.remove names.tags slot → now.limit ≡ names.limit
      → (turns : TurnList Turn ℕ) (turn : Turn) → turn ≡ turn_of p.at.value
      → maps.from_sorted {R = turn_cmp} turns.list ≡ maps.remove (maps.from_sorted {R = turn_cmp} order.list) turn → turns.limit ≡ order.limit
      → AreMarked new now turns
  marked-less now fewer limit turns turn its less_turns turns_limit =
      let at = p.at in
      let a = around c.lists at.list at.front at.back at.within in
      let tagged = subst (λ (ls : List (Link Mark)). IsTagged name_cmp mark_name name_tag ls names.tags) (a.was (gone_link ∷ []) at.split) kept.tagged in
      let less = tagged-lost names_total names_exact mark_name name_tag a.before a.behind slot at.value names.tags now.tags fewer tagged in
      let in_order = subst (λ (ls : List (Link Mark)). IsIndex turn_cmp turn_of ls (maps.from_sorted order.list))
      (a.was (gone_link ∷ []) at.split) kept.ordered.turns in
      let in_less = lost turn_total turn_exact turn_of a.before a.behind slot at.value (maps.from_sorted order.list)
      (maps.from_sorted turns.list) turn its less_turns in_order in
      let were = kept.ordered in
      let there : at.list < 5 = omega (arith, at.within, were.five) in
      subst (λ (d : Lists Mark). AreMarked d now turns) (sym gone) (record {
        ordered = record {
          five = length-with_links c at.list (at.front ++ at.back) ∙ were.five;
          kinds = each_list AreOfKind 5 c at.list (at.front ++ at.back) at.within
              (kind-without at.list at.front gone_link at.back (subst (AreOfKind at.list) at.split (were.kinds at.list there))) were.kinds;
          rising = each_list (λ k ls. IsRising mark_number ls) 5 c at.list (at.front ++ at.back) at.within
              (IsRising-without mark_number at.front gone_link at.back (subst (IsRising mark_number) at.split (were.rising at.list there)))
              were.rising;
          turns = subst (λ (ls : List (Link Mark)). IsIndex turn_cmp turn_of ls (maps.from_sorted turns.list)) (sym (a.now [])) in_less;
        };
        tagged = subst (λ (ls : List (Link Mark)). IsTagged name_cmp mark_name name_tag ls now.tags) (sym (a.now [])) less;
        room = limit ∙ kept.room;
        order_room = turns_limit ∙ kept.order_room;
        bound = kept.bound;
      })

  pub marks-less : marks_of new.lists ≡ maps.remove (marks_of c.lists) name
  marks-less =
      let at = p.at in
      let a = around c.lists at.list at.front at.back at.within in
      let was : all_links c.lists ≡ a.before ++ gone_link ∷ a.behind = a.was (gone_link ∷ []) at.split in
      let apart = subst (Distinct name_cmp (key_of mark_name)) was kept.tagged.apart in
      let none = no-mark (a.before ++ a.behind) at.value.name (others-none names_total names_exact mark_name a.before gone_link a.behind apart) in
      ap (λ (d : Lists Mark). marks_of d.lists) gone
      ∙ (ap (λ (ls : List (Link Mark)). map_of name_cmp mark_name (map mark_of_link ls)) (a.now [])
      ∙ (marks-without a.before gone_link a.behind none
      ∙ (ap (λ (ls : List (Link Mark)). maps.remove (map_of name_cmp mark_name (map mark_of_link ls)) at.value.name) (sym was)
      ∙ ap (maps.remove (marks_of c.lists)) p.named)))

-- nothing is marked
abbrev pub empty_five : (V : Type 0) → List (List (Link V))
empty_five V = [] ∷ [] ∷ [] ∷ [] ∷ [] ∷ []

pub marked-none : (limit : ℕ) (c : Lists Mark) (names : Tags) (order : TurnList Turn ℕ) → limit ≤ 2 ^ 30 → c.limit ≡ limit
    → c.lists ≡ empty_five Mark → names.limit ≡ limit → names.tags ≡ maps.empty → order.limit ≡ limit → order.list ≡ []
    → AreMarked c names order
marked-none limit c names order bound same lists room none order_room no_turn = record {
  ordered = record {
    five = ap length lists;
    kinds = λ k h. subst (AreOfKind k) (sym (each k)) tt;
    rising = λ k h. subst (IsRising mark_number) (sym (each k)) tt;
    turns = subst (λ (ls : List (List (Link Mark))). IsIndex turn_cmp turn_of (all_links ls) (maps.from_sorted order.list)) (sym lists)
        (index-new turn_total turn_exact turn_of order.list no_turn);
  };
  tagged = subst (λ (ls : List (List (Link Mark))). AreTagged ls names.tags) (sym lists)
      (tagged-new names_total names_exact mark_name name_tag names.tags none);
  room = room ∙ sym same;
  order_room = order_room ∙ sym same;
  bound = omega (arith, same, bound);
}
  where
    of_five : (k : ℕ) → get_or (empty_five Mark) k [] ≡ []
    of_five zero = refl
    of_five (suc zero) = refl
    of_five (suc (suc zero)) = refl
    of_five (suc (suc (suc zero))) = refl
    of_five (suc (suc (suc (suc zero)))) = refl
    of_five (suc (suc (suc (suc (suc k))))) = refl

    each : (k : ℕ) → links_of c k ≡ []
    each k = ap (λ (ls : List (List (Link Mark))). get_or ls k []) lists ∙ of_five k

-- ---- a number that no mark has

module _ (c : Lists Mark) (names : Tags) (order : TurnList Turn ℕ) (kept : AreMarked c names order) where
  -- a link's mark stands under its name
  stands-marked : (f : List (Link Mark)) (x : Link Mark) (b : List (Link Mark)) → all_links c.lists ≡ f ++ x ∷ b
      → maps.get (marks_of c.lists) x.value.name ≡ Some x.value
  stands-marked f x b was =
      let apart = subst (Distinct name_cmp (key_of mark_name)) was kept.tagged.apart in
      let found = ap (λ (ls : List (Link Mark)). row_at name_cmp (key_of mark_name) ls x.value.name) was
      ∙ stands-found names_total names_exact mark_name f x b apart in
      get-marks_of c.lists x.value.name ∙ ap (option_map mark_of_link) found

  none_numbered : (n : ℕ) (links : List (Link Mark))
      → ((f : List (Link Mark)) (x : Link Mark) (b : List (Link Mark)) → links ≡ f ++ x ∷ b → x.value.number ≢ n) → NoNumber mark_number n links
  none_numbered n [] out = tt
  none_numbered n (x ∷ links) out = (
    out [] x links refl,
    none_numbered n links (λ f y b is. out (x ∷ f) y b (ap (λ (ls : List (Link Mark)). x ∷ ls) is)),
  )

  -- no link of a list has it,
  pub new-number : (k n : ℕ) → k < length c.lists → IsNew (marks_of c.lists) n → NoNumber mark_number n (links_of c k)
  new-number k n within fresh = none_numbered n (links_of c k) (λ f x b is.
      let a = around c.lists k f b within in
      fresh x.value.name x.value (stands-marked a.before x a.behind (a.was (x ∷ []) is)))

  -- and no turn is that of a mark with it
  pub no-turn : (mark : Mark) → IsNew (marks_of c.lists) mark.number → HasNone turn_cmp turn_of (all_links c.lists) (turn_of mark)
  no-turn mark fresh = through (row_at turn_cmp (key_of turn_of) (all_links c.lists) (turn_of mark)) refl
    where
      through : (at : Option (Link Mark)) → row_at turn_cmp (key_of turn_of) (all_links c.lists) (turn_of mark) ≡ at → at ≡ None
      through None e = refl
      through (Some l) e =
          let s = found-stands turn_cmp turn_of (all_links c.lists) (turn_of mark) l e in
          let same = key_of_row turn_total turn_exact (key_of turn_of) (all_links c.lists) (turn_of mark) l e in
          absurd (fresh l.value.name l.value (stands-marked s.front (link l.slot l.value) s.back s.split) (ap (λ (t : Turn). t.number) same))

-- ---- a mark comes

module _ (c new : Lists Mark) (names : Tags) (order : TurnList Turn ℕ) (kept : AreMarked c names order) (mark : Mark) (k slot : ℕ)
    (its : k ≡ kind_place mark.kind) (here : k < length c.lists)
    (put : InsertsInOrder mark_number (links_of c k) (links_of new k) (link slot mark)) (come : new ≡ with_links c k (links_of new k))
    (off : maps.get (marks_of c.lists) mark.name ≡ None) where
  come_to : new ≡ with_links c k (put.front ++ link slot mark ∷ put.back)
  come_to = come ∙ ap (with_links c k) put.is

  pub marked-more : IsNew (marks_of c.lists) mark.number
      → (Place c slot → ⊥) → (now : Tags) (t : ℕ) → t ≡ name_tag mark.name → now.tags ≡ maps.insert names.tags slot t → now.limit ≡ names.limit
      → (turns : TurnList Turn ℕ) (turn : Turn) → turn ≡ turn_of mark
      → maps.from_sorted {R = turn_cmp} turns.list ≡ maps.insert (maps.from_sorted {R = turn_cmp} order.list) turn slot
      → turns.limit ≡ order.limit
      → AreMarked new now turns
  marked-more new_number fresh now t the_tag more limit turns turn the_turn more_turns turns_limit =
      let a = around c.lists k put.front put.back here in
      let was : all_links c.lists ≡ a.before ++ a.behind = a.was [] put.was in
      let tagged = subst (λ (ls : List (Link Mark)). IsTagged name_cmp mark_name name_tag ls names.tags) was kept.tagged in
      let none = subst (λ (ls : List (Link Mark)). HasNone name_cmp mark_name ls mark.name) was (no-link c.lists mark.name off) in
      let untagged = fresh-untagged c names order kept slot fresh in
      let with_it = tagged-gained names_total names_exact mark_name name_tag a.before a.behind slot mark names.tags now.tags t the_tag more
      untagged tagged none in
      let in_order = subst (λ (ls : List (Link Mark)). IsIndex turn_cmp turn_of ls (maps.from_sorted order.list)) was kept.ordered.turns in
      let no_turn = subst (λ (ls : List (Link Mark)). HasNone turn_cmp turn_of ls (turn_of mark)) was (no-turn c names order kept mark new_number) in
      let with_turn = gained turn_total turn_exact turn_of a.before a.behind slot mark (maps.from_sorted order.list)
      (maps.from_sorted turns.list) turn the_turn more_turns in_order no_turn in
      let links = put.front ++ link slot mark ∷ put.back in
      let were = kept.ordered in
      subst (λ (d : Lists Mark). AreMarked d now turns) (sym come_to) (record {
        ordered = record {
          five = length-with_links c k links ∙ were.five;
          kinds = each_list AreOfKind 5 c k links here
              (kind-with k put.front (link slot mark) put.back (sym its)
              (subst (AreOfKind k) put.was (were.kinds k (omega (arith, here, were.five))))) were.kinds;
          rising = each_list (λ j ls. IsRising mark_number ls) 5 c k links here (subst (IsRising mark_number) put.is put.rising) were.rising;
          turns = subst (λ (ls : List (Link Mark)). IsIndex turn_cmp turn_of ls (maps.from_sorted turns.list)) (sym (a.now (link slot mark ∷ []))) with_turn;
        };
        tagged = subst (λ (ls : List (Link Mark)). IsTagged name_cmp mark_name name_tag ls now.tags) (sym (a.now (link slot mark ∷ []))) with_it;
        room = limit ∙ kept.room;
        order_room = turns_limit ∙ kept.order_room;
        bound = kept.bound;
      })

  pub marks-more : marks_of new.lists ≡ maps.insert (marks_of c.lists) mark.name mark
  marks-more =
      let a = around c.lists k put.front put.back here in
      let was : all_links c.lists ≡ a.before ++ a.behind = a.was [] put.was in
      let none = subst (λ (ls : List (Link Mark)). HasNone name_cmp mark_name ls mark.name) was (no-link c.lists mark.name off) in
      ap (λ (d : Lists Mark). marks_of d.lists) come_to
      ∙ (ap (λ (ls : List (Link Mark)). map_of name_cmp mark_name (map mark_of_link ls)) (a.now (link slot mark ∷ []))
      ∙ (marks-with a.before (link slot mark) a.behind (no-mark (a.before ++ a.behind) mark.name none)
      ∙ ap (λ (ls : List (Link Mark)). maps.insert (map_of name_cmp mark_name (map mark_of_link ls)) mark.name mark) (sym was)))

-- there is a list of each kind
pub kind-within : (c : Lists Mark) (order : TurnList Turn ℕ) → AreOrdered c order → (kind : Kind) (k : ℕ) → k ≡ kind_place kind → k < length c.lists
kind-within c order are kind k is = omega (arith, is, at_most_four kind, are.five)
  where
    at_most_four : (kind : Kind) → kind_place kind ≤ 4
    at_most_four Insert = omega arith
    at_most_four InsertAck = omega arith
    at_most_four Update = omega arith
    at_most_four UpdateShort = omega arith
    at_most_four Delete = omega arith

-- a mark that was put where its turn belongs
pub put-turn : (c new : Lists Mark) (order : TurnList Turn ℕ) → AreOrdered c order → (mark : Mark) (t : Turn) → t ≡ turn_of mark
    → (behind : Option ℕ) (gap : OrderedGap mark_number t.number c t.kind behind) (slot : ℕ)
    → new ≡ with_links c t.kind (gap.front ++ link slot mark ∷ gap.back)
    → InsertsInOrder mark_number (links_of c (kind_place mark.kind)) (links_of new (kind_place mark.kind)) (link slot mark)
    × (new ≡ with_links c (kind_place mark.kind) (links_of new (kind_place mark.kind)))
put-turn c new order are mark t is behind gap slot put =
    let here = kind-within c order are mark.kind t.kind (ap (λ (u : Turn). u.kind) is) in
    let rising = are.rising t.kind (omega (arith, here, are.five)) in
    let done = gap-ordered mark_number t.number c new t.kind behind gap here rising (link slot mark) (sym (ap (λ (u : Turn). u.number) is)) put in
    subst (λ (u : Turn). InsertsInOrder mark_number (links_of c u.kind) (links_of new u.kind) (link slot mark)
    × (new ≡ with_links c u.kind (links_of new u.kind))) is done

-- its slot is below the limit
pub put-below : (c new : Lists Mark) (list : ℕ) (front back : List (Link Mark)) (slot : ℕ) (mark : Mark) → AreLists new
    → list < length c.lists → new ≡ with_links c list (front ++ link slot mark ∷ back) → slot < new.limit
put-below c new list front back slot mark are within put =
    are.below slot (subst (λ (d : Lists Mark). Place d slot) (sym put) (Place-new c list front back slot mark within))

-- ---- what is set under a name

module _ (m : Map name_cmp Mark) (name : StateName) (mark : Mark) where
  -- there is room for it where the former one is off
  pub room-set : (limit : ℕ) → maps.len (set_at m name (Some mark)) ≤ limit → maps.len (maps.remove m name) < limit
  room-set limit few =
      let off = get-set_at_same names_total names_exact m name None in
      let one = len-insert names_total (maps.remove m name) name mark
      ∙ ap (λ (o : Option Mark). cond (is_some o) (maps.len (maps.remove m name)) (maps.len (maps.remove m name) + 1)) off in
      omega (arith, few, ap maps.len (set_at-set_at names_total names_exact m name None (Some mark)), one)

  -- and its number is new then
  pub new-set : AreApart (set_at m name (Some mark)) → IsNew (maps.remove m name) mark.number
  new-set apart n k is same =
      let other : n ≢ name = λ e. some_is_none k (sym is ∙ (ap (maps.get (maps.remove m name)) e ∙ get-set_at_same names_total names_exact m name None)) in
      let there = get-set_at_other names_total names_exact m name (Some mark) n other
      ∙ (sym (get-set_at_other names_total names_exact m name None n other) ∙ is) in
      other (apart n name k mark there (get-set_at_same names_total names_exact m name (Some mark)) same)

-- a mark may be put where its name was taken off, which sets it
pub record MaySet (m less : Map name_cmp Mark) (name : StateName) (at : Option Mark) (mark : Mark) (limit : ℕ) : Type 0 where
  pub room : maps.len less < limit
  pub off : maps.get less mark.name ≡ None
  pub new : IsNew less mark.number
  pub set : maps.insert less mark.name mark ≡ set_at m name at

pub set-named : (m : Map name_cmp Mark) (name : StateName) (at : Option Mark) (mark : Mark) → at ≡ Some mark
    → IfSome at (λ k. k.name ≡ name) → (limit : ℕ) → maps.len (set_at m name at) ≤ limit → AreApart (set_at m name at)
    → (less : Map name_cmp Mark) → less ≡ maps.remove m name → (now : ℕ) → now ≡ limit → MaySet m less name at mark now
set-named m name at mark is keyed limit few apart less gone now same =
    let named : mark.name ≡ name = subst (λ (o : Option Mark). IfSome o (λ k. k.name ≡ name)) is keyed in
    let room = room-set m name mark limit (subst (λ (o : Option Mark). maps.len (set_at m name o) ≤ limit) is few) in
    let off : maps.get less name ≡ None = ap (λ (l : Map name_cmp Mark). maps.get l name) gone ∙ get-set_at_same names_total names_exact m name None in
    record {
      room = omega (arith, ap maps.len gone, room, same);
      off = ap (maps.get less) named ∙ off;
      new = subst (λ (l : Map name_cmp Mark). IsNew l mark.number) (sym gone)
          (new-set m name mark (subst (λ (o : Option Mark). AreApart (set_at m name o)) is apart));
      set = ap (λ (n : StateName). maps.insert less n mark) named
          ∙ (ap (λ (l : Map name_cmp Mark). maps.insert l name mark) gone
          ∙ (set_at-set_at names_total names_exact m name None (Some mark) ∙ ap (set_at m name) (sym is)));
    }
