-- What a write leaves of the trees in an array, and how trees are joined.
use Rattle.std.proofs.Common.{◌≡◌, ◌≢◌, ℕ, zero, suc, ◌+◌, ◌-◌, ◌≤◌, ◌<◌, ◌⊎◌, inl, inr, true, false, cond, List, [], ◌∷◌, ◌++◌, length, set}
use Rattle.std.proofs.Common.{append_assoc, Some, None, refl, sym, ap, subst, ◌∙◌, arith}
use Rattle.std.specs.Prelude.{slice_get, ◌==◌}
use Rattle.std.proofs.lemmas.List.{length-set}
use Rattle.std.proofs.lemmas.Option.{slice_get_within, same_Some}
use borrow.Author.Tests.{eqb-true, eq-eqb}
use Rattle.pfl_containers.specs.declared.order.node.Node.{Node}
use Rattle.pfl_containers.specs.inner.Trees.{Tree, leaf, fork, once, entries, uses, Holds, Makes, CanJoin, Joins, Steadies}
use Rattle.pfl_containers.specs.declared.order.node.TheConstants.{NO_PLACE}
use Rattle.pfl_containers.specs.inner.Balances.{height_of, depth, IsBalanced, Links, TurnsRight, TurnsLeft, Balances, BalancesLeft, BalancesRight}
use Rattle.pfl_containers.specs.inner.Balances.{TakesLeft, TakesRight}
use Rattle.pfl_containers.proofs.Balances.{height-is, turns_right, turns_left, stays_joined, balances_as_left, balances_as_right}

get-set_same : {X : Type 0} (xs : List X) (i : ℕ) (x : X) → i < length xs → slice_get (set xs i x) i ≡ Some x
get-set_same [] i x h = absurd (omega arith)
get-set_same (y ∷ ys) zero x h = refl
get-set_same (y ∷ ys) (suc i) x h = get-set_same ys i x (omega arith)

get-set_other : {X : Type 0} (xs : List X) (i j : ℕ) (x : X) → i ≢ j → slice_get (set xs i x) j ≡ slice_get xs j
get-set_other [] i j x apart = refl
get-set_other (y ∷ ys) zero zero x apart = absurd (apart refl)
get-set_other (y ∷ ys) zero (suc j) x apart = refl
get-set_other (y ∷ ys) (suc i) zero x apart = refl
get-set_other (y ∷ ys) (suc i) (suc j) x apart = get-set_other ys i j x (λ e. apart (ap suc e))

-- a place is its own,
pub once_same : (i j : ℕ) → i ≡ j → once i j ≡ 1
once_same i j e = ap (λ b. cond b 1 0) (eq-eqb i j e)

-- and no other
pub once_apart : (i j : ℕ) → once i j ≡ 0 → i ≢ j
once_apart i j z e = absurd (omega (arith, z, once_same i j e))

pub one_or_other : (i j : ℕ) → (i ≡ j) ⊎ (i ≢ j)
one_or_other i j = elim (i == j) as (λ b. (i == j) ≡ b → (i ≡ j) ⊎ (i ≢ j)) [
  | true ↦ λ e. inl (eqb-true i j e)
  | false ↦ λ e. inr (λ same. absurd (omega (arith, once_same i j same, ap {B = ℕ} (λ b. cond b 1 0) e)))
] refl

pub once_other : (i j : ℕ) → i ≢ j → once i j ≡ 0
once_other i j apart = elim (i == j) as (λ b. (i == j) ≡ b
    → ◌≡◌ {A = ℕ} (cond b 1 0) 0) [ true ↦ λ e. absurd (apart (eqb-true i j e)) | false ↦ λ e. refl ] refl

module _ {K V : Type 0} where
  -- a tree stands as long as its nodes do
  pub Holds-kept : (nodes new : List (Node K V)) (t : Tree K V) (link : ℕ) → (length nodes ≤ NO_PLACE → length new ≤ NO_PLACE)
      → Holds nodes t link → ((j : ℕ) → 0 < uses t j → slice_get new j ≡ slice_get nodes j) → Holds new t link
  Holds-kept nodes new leaf link short h same = (h.0, short h.1)
  Holds-kept nodes new (fork l i n r) link short h same = (
    h.0,
    same i (omega (arith, once_same i i refl)) ∙ h.1,
    Holds-kept nodes new l n.left short h.2 (λ j p. same j (omega arith)),
    Holds-kept nodes new r n.right short h.3 (λ j p. same j (omega arith)),
  )

  -- a tree takes no place past the end
  pub uses_within : (nodes : List (Node K V)) (t : Tree K V) (link : ℕ) → Holds nodes t link → (j : ℕ) → length nodes ≤ j → uses t j ≡ 0
  uses_within nodes leaf link h j past = refl
  uses_within nodes (fork l i n r) link h j past =
      let within = slice_get_within nodes i n h.1 in
      omega (arith, uses_within nodes l n.left h.2 j past, uses_within nodes r n.right h.3 j past, once_other i j (λ e. omega (arith, e, within, past)))

  pub used_within : (nodes : List (Node K V)) (t : Tree K V) (link : ℕ) → Holds nodes t link → (j : ℕ) → 0 < uses t j → j < length nodes
  used_within nodes t link h j used =
      elim (one_or_other (length nodes - j) 0) [
        | inl e ↦ absurd (omega (arith, used, uses_within nodes t link h j (omega (arith, e))))
        | inr e ↦ omega (arith, e)
      ]

  -- the same, said of other entries and counts
  pub Makes-as : {nodes new : List (Node K V)} {es fs : List (K × V)} {u v : ℕ → ℕ} {S P : Tree K V → Type 0} {link : ℕ}
      → Makes nodes new es u S link → es ≡ fs → ((j : ℕ) → u j ≡ v j) → ((t : Tree K V) → S t → P t) → Makes nodes new fs v P link
  Makes-as m lists takes says = record {
    tree = m.tree;
    holds = m.holds;
    lists = m.lists ∙ lists;
    takes = λ j. m.takes j ∙ takes j;
    keeps = λ j z. m.keeps j (takes j ∙ z);
    long = m.long;
    says = says m.tree m.says;
  }

  -- the same, of which something else is said
  pub Joins-as : {nodes new : List (Node K V)} {place : ℕ} {node : Node K V} {S P : Tree K V → Tree K V → Tree K V → Type 0} {link : ℕ}
      → Joins nodes new place node S link
      → ((l r t : Tree K V) → CanJoin nodes l r place node → S l r t → P l r t) → Joins nodes new place node P link
  Joins-as joins says = record { makes = λ l r can. Makes-as (joins.makes l r can) refl (λ j. refl) (λ t. says l r t can) }

  -- what a node at a link says of the tree there
  pub record Stands (nodes : List (Node K V)) (t : Tree K V) (place : ℕ) (node : Node K V) : Type 0 where
    pub l : Tree K V
    pub r : Tree K V
    pub is : t ≡ fork l place node r
    pub left : Holds nodes l node.left
    pub right : Holds nodes r node.right
    pub at : slice_get nodes place ≡ Some node
    pub within : place < length nodes

  pub stands : (nodes : List (Node K V)) (t : Tree K V) (link : ℕ) → Holds nodes t link → (node : Node K V)
      → Some node ≡ slice_get nodes link → Stands nodes t link node
  stands nodes leaf link h node is = absurd (omega (arith, h.0, h.1, slice_get_within nodes link node (sym is)))
  stands nodes (fork l i n r) link h node is =
      let place : i ≡ link = sym h.0 in
      let one : n ≡ node = same_Some n node (sym h.1 ∙ (ap (slice_get nodes) place ∙ sym is)) in
      let pair : (i, n) ≡ (link, node) = cc in
      subst (λ (p : ℕ × Node K V). Stands nodes (fork l i n r) p.0 p.1) pair
      (record { l = l; r = r; is = refl; left = h.2; right = h.3; at = h.1; within = slice_get_within nodes i n h.1 })

  -- and what no node says
  pub stands_not : (nodes : List (Node K V)) (t : Tree K V) (link : ℕ) → Holds nodes t link → None ≡ slice_get nodes link → t ≡ leaf
  stands_not nodes leaf link h is = refl
  stands_not nodes (fork l i n r) link h is = let no : None ≡ Some n = is ∙ (ap (slice_get nodes) h.0 ∙ h.1) in absurd (cc)

  -- a node in its place joins the trees that it names
  pub linked_joins : (nodes new : List (Node K V)) (place : ℕ) (node : Node K V) (height : ℕ) (S : Tree K V → Tree K V → Tree K V → Type 0)
      → new ≡ set nodes place (record node { height = height })
      → ((l r : Tree K V) → CanJoin nodes l r place node → S l r (fork l place (record node { height = height }) r)) → Joins nodes new place node S place
  linked_joins nodes new place node height S is says = subst (λ (ns : List (Node K V)). Joins nodes ns place node S place) (sym is) (record {
    makes = λ l r can.
        let n : Node K V = record node { height = height } in
        let short : length nodes ≤ NO_PLACE → length (set nodes place n) ≤ NO_PLACE = λ h. rw length-set h in
        let others : (j : ℕ) → once place j ≡ 0
        → slice_get (set nodes place n) j ≡ slice_get nodes j = λ j z. get-set_other nodes place j n (once_apart place j z) in
        record {
          tree = fork l place n r;
          holds = (
            refl,
            get-set_same nodes place n can.within,
            Holds-kept nodes _ l node.left short can.left (λ j p. others j (omega (arith, can.apart j))),
            Holds-kept nodes _ r node.right short can.right (λ j p. others j (omega (arith, can.apart j))),
          );
          lists = refl;
          takes = λ j. refl;
          keeps = λ j z. others j (omega (arith, z));
          long = length-set nodes place n;
          says = says l r can;
        };
  })

  -- a node whose left tree was made joins it
  pub join_left : {nodes mid new : List (Node K V)} {place : ℕ} (node : Node K V) {es : List (K × V)} {u : ℕ → ℕ} {S : Tree K V
      → Type 0} {J : Tree K V → Tree K V → Tree K V → Type 0} {part link : ℕ}
      → Makes nodes mid es u S part → (r : Tree K V) → Holds nodes r node.right → place < length nodes → ((j : ℕ) → u j + (once place j + uses r j) ≤ 1)
      → Joins mid new place (record node { left = part }) J link
      → Makes nodes new (es ++ (node.key, node.value) ∷ entries r) (λ j. u j + (once place j + uses r j)) (λ t. (p : Tree K V) × S p
      × J p r t) link
  join_left {nodes} {mid} {new} {place} node {es} {u} {S} {J} {part} {link} m r right within apart joins =
      let n : Node K V = record node { left = part } in
      let can : CanJoin mid m.tree r place n = record {
        left = m.holds;
        right = Holds-kept nodes mid r node.right (λ h. omega (arith, h, m.long)) right (λ j p. m.keeps j (omega (arith, apart j)));
        within = omega (arith, within, m.long);
        apart = λ j. omega (arith, m.takes j, apart j);
      } in
      let all = joins.makes m.tree r can in
      record {
        tree = all.tree;
        holds = all.holds;
        lists = all.lists ∙ ap (λ (fs : List (K × V)). fs ++ (node.key, node.value) ∷ entries r) m.lists;
        takes = λ j. all.takes j ∙ ap (λ n. n + (once place j + uses r j)) (m.takes j);
        keeps = λ j z. all.keeps j (omega (arith, m.takes j, z)) ∙ m.keeps j (omega (arith, z));
        long = all.long ∙ m.long;
        says = (m.tree, m.says, all.says);
      }

  -- the tree u is balanced as t is
  pub record Alike (t u : Tree K V) : Type 0 where
    pub alike : IsBalanced t → IsBalanced u × (depth u ≡ depth t)

  -- and one that stands where it did keeps it
  pub stay_left : {nodes new : List (Node K V)} {place : ℕ} {node : Node K V} {es : List (K × V)} {u : ℕ → ℕ} {link : ℕ}
      → (was : Tree K V) → Makes nodes new es u (Alike was) node.left → slice_get nodes place ≡ Some node → link ≡ place → (r : Tree K V)
      → Holds nodes r node.right → ((j : ℕ) → u j + (once place j + uses r j) ≤ 1)
      → Makes nodes new (es ++ (node.key, node.value) ∷ entries r) (λ j. u j + (once place j + uses r j)) (Alike (fork was place node r)) link
  stay_left {nodes} {new} {place} {node} {es} {u} was m at link_is r right apart = record {
    tree = fork m.tree place node r;
    holds = (
      link_is,
      m.keeps place (omega (arith, apart place, once_same place place refl)) ∙ at,
      m.holds,
      Holds-kept nodes new r node.right (λ h. omega (arith, h, m.long)) right (λ j p. m.keeps j (omega (arith, apart j))),
    );
    lists = ap (λ (fs : List (K × V)). fs ++ (node.key, node.value) ∷ entries r) m.lists;
    takes = λ j. ap (λ n. n + (once place j + uses r j)) (m.takes j);
    keeps = λ j z. m.keeps j (omega (arith, z));
    long = m.long;
    says = record {
      alike = λ b. let same = m.says.alike b.3 in let e =
          same.1 in ((omega (arith, b.0, e), omega (arith, b.1, e), omega (arith, b.2, e), same.0, b.4), omega (arith, e));
    };
  }

  pub stay_right : {nodes new : List (Node K V)} {place : ℕ} {node : Node K V} {es : List (K × V)} {u : ℕ → ℕ} {link : ℕ}
      → (was : Tree K V) → Makes nodes new es u (Alike was) node.right → slice_get nodes place ≡ Some node → link ≡ place → (l : Tree K V)
      → Holds nodes l node.left → ((j : ℕ) → uses l j + (once place j + u j) ≤ 1)
      → Makes nodes new (entries l ++ (node.key, node.value) ∷ es) (λ j. uses l j + (once place j + u j)) (Alike (fork l place node was)) link
  stay_right {nodes} {new} {place} {node} {es} {u} was m at link_is l left apart = record {
    tree = fork l place node m.tree;
    holds = (
      link_is,
      m.keeps place (omega (arith, apart place, once_same place place refl)) ∙ at,
      Holds-kept nodes new l node.left (λ h. omega (arith, h, m.long)) left (λ j p. m.keeps j (omega (arith, apart j))),
      m.holds,
    );
    lists = ap (λ (fs : List (K × V)). entries l ++ (node.key, node.value) ∷ fs) m.lists;
    takes = λ j. ap (λ n. uses l j + (once place j + n)) (m.takes j);
    keeps = λ j z. m.keeps j (omega (arith, z));
    long = m.long;
    says = record {
      alike = λ b. let same = m.says.alike b.4 in let e =
          same.1 in ((omega (arith, b.0, e), omega (arith, b.1, e), omega (arith, b.2, e), b.3, same.0), omega (arith, e));
    };
  }

  -- and likewise on the right
  pub join_right : {nodes mid new : List (Node K V)} {place : ℕ} (node : Node K V) {es : List (K × V)} {u : ℕ → ℕ} {S : Tree K V
      → Type 0} {J : Tree K V → Tree K V → Tree K V → Type 0} {part link : ℕ}
      → Makes nodes mid es u S part → (l : Tree K V) → Holds nodes l node.left → place < length nodes → ((j : ℕ) → uses l j + (once place j + u j) ≤ 1)
      → Joins mid new place (record node { right = part }) J link
      → Makes nodes new (entries l ++ (node.key, node.value) ∷ es) (λ j. uses l j + (once place j + u j)) (λ t. (p : Tree K V) × S p
      × J l p t) link
  join_right {nodes} {mid} {new} {place} node {es} {u} {S} {J} {part} {link} m l left within apart joins =
      let n : Node K V = record node { right = part } in
      let can : CanJoin mid l m.tree place n = record {
        left = Holds-kept nodes mid l node.left (λ h. omega (arith, h, m.long)) left (λ j p. m.keeps j (omega (arith, apart j)));
        right = m.holds;
        within = omega (arith, within, m.long);
        apart = λ j. omega (arith, m.takes j, apart j);
      } in
      let all = joins.makes l m.tree can in
      record {
        tree = all.tree;
        holds = all.holds;
        lists = all.lists ∙ ap (λ (fs : List (K × V)). entries l ++ (node.key, node.value) ∷ fs) m.lists;
        takes = λ j. all.takes j ∙ ap (λ n. uses l j + (once place j + n)) (m.takes j);
        keeps = λ j z. all.keeps j (omega (arith, m.takes j, z)) ∙ m.keeps j (omega (arith, z));
        long = all.long ∙ m.long;
        says = (m.tree, m.says, all.says);
      }

  -- the tree of the left tree's node, with the node below it to the right
  pub turn_right : {nodes mid new : List (Node K V)} {place : ℕ} {node left : Node K V} {part link : ℕ}
      → Some left ≡ slice_get nodes node.left → Joins nodes mid place (record node { left = left.right }) Links part
      → Joins mid new node.left (record left { right = part }) Links link
      → Joins nodes new place node TurnsRight link
  turn_right {nodes} {mid} {new} {place} {node} {left} {part} {link} at first second = record {
    makes = λ l r can.
        let top = node.left in
        let s = stands nodes l node.left can.left left at in
        let apart : (j : ℕ) → (uses s.l j + (once top j + uses s.r j)) + (once place j + uses r j) ≤ 1 =
        λ j. subst (λ (t : Tree K V). uses t j + (once place j + uses r j) ≤ 1) s.is (can.apart j) in
        let below = first.makes s.r r (record { left = s.right; right = can.right; within = can.within; apart = λ j. omega (arith, apart j) }) in
        let all = join_right left below s.l s.left s.within (λ j. omega (arith, apart j)) second in
        subst (λ (t : Tree K V). Makes nodes new (entries t ++ (node.key, node.value) ∷ entries r)
        (λ j. uses t j + (once place j + uses r j)) (TurnsRight t r) link) (sym s.is)
        (Makes-as all (sym (append_assoc (entries s.l) ((left.key, left.value) ∷ entries s.r) ((node.key, node.value) ∷ entries r))) (λ j. omega arith)
        (λ t w. turns_right s.l top left s.r r w.0 t w.1 w.2));
  }

  -- and of the right tree's node, with the node below it to the left
  pub turn_left : {nodes mid new : List (Node K V)} {place : ℕ} {node right : Node K V} {part link : ℕ}
      → Some right ≡ slice_get nodes node.right → Joins nodes mid place (record node { right = right.left }) Links part
      → Joins mid new node.right (record right { left = part }) Links link
      → Joins nodes new place node TurnsLeft link
  turn_left {nodes} {mid} {new} {place} {node} {right} {part} {link} at first second = record {
    makes = λ l r can.
        let top = node.right in
        let s = stands nodes r node.right can.right right at in
        let apart : (j : ℕ) → uses l j + (once place j + (uses s.l j + (once top j + uses s.r j))) ≤ 1 =
        λ j. subst (λ (t : Tree K V). uses l j + (once place j + uses t j) ≤ 1) s.is (can.apart j) in
        let below = first.makes l s.l (record { left = can.left; right = s.left; within = can.within; apart = λ j. omega (arith, apart j) }) in
        let all = join_left right below s.r s.right s.within (λ j. omega (arith, apart j)) second in
        subst (λ (t : Tree K V). Makes nodes new (entries l ++ (node.key, node.value) ∷ entries t)
        (λ j. uses l j + (once place j + uses t j)) (TurnsLeft l t) link) (sym s.is)
        (Makes-as all (append_assoc (entries l) ((node.key, node.value) ∷ entries s.l) ((right.key, right.value) ∷ entries s.r)) (λ j. omega arith)
        (λ t w. turns_left l s.l top right s.r w.0 t w.1 w.2));
  }

  -- a tree that is left alone
  left_alone : (nodes : List (Node K V)) (link : ℕ) (S : Tree K V → Tree K V → Type 0) → ((t : Tree K V) → Holds nodes t link → S t t)
      → Steadies nodes nodes link S link
  left_alone nodes link S says = record {
    makes = λ t h apart. record { tree = t; holds = h; lists = refl; takes = λ j. refl; keeps = λ j z. refl; long = refl; says = says t h };
  }

  pub left_empty : {nodes : List (Node K V)} {link : ℕ} (S : Tree K V → Tree K V → Type 0) → None ≡ slice_get nodes link → S leaf leaf
      → Steadies nodes nodes link S link
  left_empty {nodes} {link} S at says = left_alone nodes link S (λ t h. subst (λ (u : Tree K V). S u u) (sym (stands_not nodes t link h at)) says)

  pub left_standing : {nodes : List (Node K V)} {link : ℕ} {node : Node K V} (S : Tree K V → Tree K V → Type 0) → Some node ≡ slice_get nodes link
      → ((l r : Tree K V) → Holds nodes l node.left → Holds nodes r node.right → S (fork l link node r) (fork l link node r)) → Steadies nodes nodes link S link
  left_standing {nodes} {link} {node} S at says = left_alone nodes link S (λ t h.
      let s = stands nodes t link h node at in
      subst (λ (u : Tree K V). S u u) (sym s.is) (says s.l s.r s.left s.right))

  -- a tree that is joined anew
  pub joined_anew : {nodes new : List (Node K V)} {node : Node K V} {from : ℕ} {J : Tree K V → Tree K V → Tree K V
      → Type 0} {link : ℕ} (S : Tree K V → Tree K V → Type 0)
      → Some node ≡ slice_get nodes from → Joins nodes new from node J link
      → ((l r u : Tree K V) → Holds nodes l node.left → Holds nodes r node.right → J l r u → S (fork l from node r) u) → Steadies nodes new from S link
  joined_anew {nodes} {new} {node} {from} {J} {link} S at joins says = record {
    makes = λ t h apart.
        let s = stands nodes t from h node at in
        subst (λ (u : Tree K V). Makes nodes new (entries u) (uses u) (S u) link) (sym s.is)
        (Makes-as (joins.makes s.l s.r
        (record { left = s.left; right = s.right; within = s.within; apart = λ j. subst (λ (u : Tree K V). uses u j ≤ 1) s.is (apart j) }))
        refl (λ j. refl) (λ u. says s.l s.r u s.left s.right));
  }

  -- a node whose left tree was steadied joins it
  pub join_steady_left : {nodes mid new : List (Node K V)} {place : ℕ} (node : Node K V) {S : Tree K V → Tree K V → Type 0} {J : Tree K V
      → Tree K V → Tree K V → Type 0} {part link : ℕ}
      → Steadies nodes mid node.left S part → Joins mid new place (record node { left = part }) J link
      → Joins nodes new place node (λ l r t. (p : Tree K V) × S l p × J p r t) link
  join_steady_left node steady joins = record {
    makes = λ l r can. join_left node (steady.makes l can.left (λ j. omega (arith, can.apart j))) r can.right can.within can.apart joins;
  }

  -- and likewise on the right
  pub join_steady_right : {nodes mid new : List (Node K V)} {place : ℕ} (node : Node K V) {S : Tree K V → Tree K V → Type 0} {J : Tree K V
      → Tree K V → Tree K V → Type 0} {part link : ℕ}
      → Steadies nodes mid node.right S part → Joins mid new place (record node { right = part }) J link
      → Joins nodes new place node (λ l r t. (p : Tree K V) × S r p × J l p t) link
  join_steady_right node steady joins = record {
    makes = λ l r can. join_right node (steady.makes r can.right (λ j. omega (arith, can.apart j))) l can.left can.within can.apart joins;
  }

  -- A node at a place takes a new left tree: where none stands, none does,
  pub takes_left-none : {nodes new : List (Node K V)} {place left was link : ℕ} → None ≡ slice_get nodes place → TakesLeft nodes new place left was link
  takes_left-none at = record { joins = λ node is. let no : None ≡ Some node = at ∙ is in absurd (cc) }

  pub takes_right-none : {nodes new : List (Node K V)} {place right was link : ℕ} → None ≡ slice_get nodes place → TakesRight nodes new place right was link
  takes_right-none at = record { joins = λ node is. let no : None ≡ Some node = at ∙ is in absurd (cc) }

  -- where that stands and is as deep as the one before, nothing changes,
  alone : {nodes : List (Node K V)} {place : ℕ} {node other : Node K V} (S : Tree K V → Tree K V → Tree K V → Type 0)
      → slice_get nodes place ≡ Some node → other ≡ node
      → ((l r : Tree K V) → Holds nodes l node.left → Holds nodes r node.right → S l r (fork l place node r)) → Joins nodes nodes place other S place
  alone {nodes} {place} {node} {other} S at same says = subst (λ (n : Node K V). Joins nodes nodes place n S place) (sym same) (record {
    makes = λ l r can. record {
      tree = fork l place node r;
      holds = (refl, at, can.left, can.right);
      lists = refl;
      takes = λ j. refl;
      keeps = λ j z. refl;
      long = refl;
      says = says l r can.left can.right;
    };
  })

  pub takes_left-same : {nodes : List (Node K V)} {place left was : ℕ} {node : Node K V} → Some node ≡ slice_get nodes place
      → left ≡ node.left → height_of nodes left ≡ was → TakesLeft nodes nodes place left was place
  takes_left-same {nodes} {place} {left} {was} {node} at same high = record {
    joins = λ other is.
        let one : node ≡ other = same_Some node other (at ∙ is) in
        let stood : left ≡ other.left = same ∙ ap (λ (n : Node K V). n.left) one in
        alone _ is (ap (λ (a : ℕ). record other { left = a }) stood) (λ l r hl hr. record {
          joined = λ b c _ _ _ _ fits.
              let deep : depth l ≡ was = sym (height-is nodes l other.left hl b) ∙ (ap (height_of nodes) (sym stood) ∙ high) in
              stays_joined l r place other b c (omega (arith, fits.0, deep), omega (arith, fits.1, deep), omega (arith, fits.2, deep));
        });
  }

  pub takes_right-same : {nodes : List (Node K V)} {place right was : ℕ} {node : Node K V} → Some node ≡ slice_get nodes place
      → right ≡ node.right → height_of nodes right ≡ was → TakesRight nodes nodes place right was place
  takes_right-same {nodes} {place} {right} {was} {node} at same high = record {
    joins = λ other is.
        let one : node ≡ other = same_Some node other (at ∙ is) in
        let stood : right ≡ other.right = same ∙ ap (λ (n : Node K V). n.right) one in
        alone _ is (ap (λ (a : ℕ). record other { right = a }) stood) (λ l r hl hr. record {
          joined = λ b c _ _ _ _ fits.
              let deep : depth r ≡ was = sym (height-is nodes r other.right hr c) ∙ (ap (height_of nodes) (sym stood) ∙ high) in
              stays_joined l r place other b c (omega (arith, fits.0, deep), omega (arith, fits.1, deep), omega (arith, fits.2, deep));
        });
  }

  -- and else both are balanced.
  pub takes_left-other : {nodes new : List (Node K V)} {place left was link : ℕ} {node : Node K V} → Some node ≡ slice_get nodes place
      → Joins nodes new place (record node { left = left }) Balances link → TakesLeft nodes new place left was link
  takes_left-other {nodes} {new} {place} {left} {was} {link} {node} at joins = record {
    joins = λ other is.
        subst (λ (n : Node K V). Joins nodes new place (record n { left = left }) (BalancesLeft was n.height) link) (same_Some node other (at ∙ is))
        (Joins-as joins (λ l r t can b. balances_as_left was node.height l r t b));
  }

  pub takes_right-other : {nodes new : List (Node K V)} {place right was link : ℕ} {node : Node K V} → Some node ≡ slice_get nodes place
      → Joins nodes new place (record node { right = right }) Balances link → TakesRight nodes new place right was link
  takes_right-other {nodes} {new} {place} {right} {was} {link} {node} at joins = record {
    joins = λ other is.
        subst (λ (n : Node K V). Joins nodes new place (record n { right = right }) (BalancesRight was n.height) link) (same_Some node other (at ∙ is))
        (Joins-as joins (λ l r t can b. balances_as_right was node.height l r t b));
  }
