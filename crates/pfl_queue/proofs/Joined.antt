-- The links of several lists, one list after another.
use Rattle.std.specs.Prelude.{◌≡◌, ◌⊎◌, ℕ, zero, suc, ◌<◌, List, [], ◌∷◌, ◌++◌, length, get_or, set, refl}
use Rattle.std.proofs.Common.{inl, inr, ◌∙◌, ap, sym, subst, arith, length-append, append_assoc}
use Rattle.std.proofs.lemmas.Bool.{cases_eq}
use Rattle.pfl_containers.specs.Lists.{Link, link, Lists, Place, links_of, with_links, count_of}
use Rattle.pfl_containers.proofs.ForCallers.{Stands, links_of-same, links_of-other}
use Rattle.pfl_queue.specs.inner.Marked.{all_links}

module _ {V : Type 0} where
  -- there are as many as the lists have together
  pub count-all : (lists : List (List (Link V))) → count_of lists ≡ length (all_links lists)
  count-all [] = refl
  count-all (links ∷ lists) = omega (arith, count-all lists, length-append links (all_links lists))

  -- what stands before and after a part of one list
  pub record Around (lists : List (List (Link V))) (k : ℕ) (f b : List (Link V)) : Type 0 where
    pub before : List (Link V)
    pub behind : List (Link V)
    pub was : (mid : List (Link V)) → get_or lists k [] ≡ f ++ (mid ++ b) → all_links lists ≡ before ++ (mid ++ behind)
    pub now : (mid : List (Link V)) → all_links (set lists k (f ++ (mid ++ b))) ≡ before ++ (mid ++ behind)

  parts : (f mid b rest : List (Link V)) → (f ++ (mid ++ b)) ++ rest ≡ f ++ (mid ++ (b ++ rest))
  parts f mid b rest = append_assoc f (mid ++ b) rest ∙ ap (λ (l : List (Link V)). f ++ l) (append_assoc mid b rest)

  pub around : (lists : List (List (Link V))) (k : ℕ) (f b : List (Link V)) → k < length lists → Around lists k f b
  around [] k f b h = absurd (omega arith)
  around (x ∷ lists) zero f b h = record {
    before = f;
    behind = b ++ all_links lists;
    was = λ mid is. ap (λ (l : List (Link V)). l ++ all_links lists) is ∙ parts f mid b (all_links lists);
    now = λ mid. parts f mid b (all_links lists);
  }
  around (x ∷ lists) (suc k) f b h =
      let rest = around lists k f b (omega arith) in
      record {
        before = x ++ rest.before;
        behind = rest.behind;
        was = λ mid is. ap (λ (l : List (Link V)). x ++ l) (rest.was mid is) ∙ sym (append_assoc x rest.before (mid ++ rest.behind));
        now = λ mid. ap (λ (l : List (Link V)). x ++ l) (rest.now mid) ∙ sym (append_assoc x rest.before (mid ++ rest.behind));
      }

  either : (xs ys : List (Link V)) (slot : ℕ) (v : V) (f b : List (Link V)) → xs ++ ys ≡ f ++ link slot v ∷ b → Stands slot xs v ⊎ Stands slot ys v
  either [] ys slot v f b e = inr (record { front = f; back = b; split = e })
  either (x ∷ xs) ys slot v [] b e =
      let same : x ≡ link slot v = cc in
      inl (record { front = []; back = xs; split = ap (λ (y : Link V). y ∷ xs) same })
  either (x ∷ xs) ys slot v (y ∷ f) b e =
      let rest : xs ++ ys ≡ f ++ link slot v ∷ b = cc in
      elim (either xs ys slot v f b rest) [
        | inl s ↦ inl (record { front = x ∷ s.front; back = s.back; split = ap (λ (l : List (Link V)). x ∷ l) s.split })
        | inr s ↦ inr s
      ]

  -- a link that stands in one of the lists
  record Within (lists : List (List (Link V))) (slot : ℕ) (v : V) : Type 0 where
    list : ℕ
    within : list < length lists
    front : List (Link V)
    back : List (Link V)
    split : get_or lists list [] ≡ front ++ link slot v ∷ back

  none_there : (slot : ℕ) (v : V) (f b : List (Link V)) → [] ≡ f ++ link slot v ∷ b → ⊥
  none_there slot v [] b e = cc
  none_there slot v (y ∷ f) b e = cc

  within : (lists : List (List (Link V))) (slot : ℕ) (v : V) → Stands slot (all_links lists) v → Within lists slot v
  within [] slot v s = absurd (none_there slot v s.front s.back s.split)
  within (links ∷ lists) slot v s = elim (either links (all_links lists) slot v s.front s.back s.split) [
    | inl here ↦ record { list = 0; within = omega arith; front = here.front; back = here.back; split = here.split }
    | inr later ↦
        let w = within lists slot v later in
        record { list = suc w.list; within = omega (arith, w.within); front = w.front; back = w.back; split = w.split }
  ]

  -- a link that stands among all has a place
  pub record PlaceOf (c : Lists V) (slot : ℕ) (v : V) : Type 0 where
    pub at : Place c slot
    pub is : at.value ≡ v

  pub place : (c : Lists V) (slot : ℕ) (v : V) → Stands slot (all_links c.lists) v → PlaceOf c slot v
  place c slot v s =
      let w = within c.lists slot v s in
      record { at = record { list = w.list; within = w.within; front = w.front; value = v; back = w.back; split = w.split }; is = refl }

  -- what holds of each list holds of each when one is changed
  pub each_list : (P : ℕ → List (Link V) → Type 0) (n : ℕ) (c : Lists V) (list : ℕ) (links : List (Link V)) → list < length c.lists
      → P list links → ((k : ℕ) → k < n → P k (links_of c k))
      → (k : ℕ) → k < n → P k (links_of (with_links c list links) k)
  each_list P n c list links within here others k h = elim (cases_eq k list) [
    | inl same ↦ subst (λ j. P j (links_of (with_links c list links) j)) (sym same) (subst (P list) (sym (links_of-same c list links within)) here)
    | inr other ↦ subst (P k) (sym (links_of-other c list k links other)) (others k h)
  ]
