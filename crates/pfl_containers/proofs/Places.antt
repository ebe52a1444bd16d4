-- What a change of one list leaves of the others. Proofs of the crates above cite the lemmas.
-- This project's profile.
use Rattle.std.specs.Prelude.{◌≡◌, ◌≢◌, ℕ, ◌<◌, List, [], ◌∷◌, ◌++◌, length}
use Rattle.std.proofs.Common.{arith, length-set, get_or-set_same, get_or-set_other}
use Rattle.pfl_containers.specs.Lists.{Link, link, Lists, Place, links_of, with_links}

module _ {V : Type 0} where
  pub length-with_links : (c : Lists V) (list : ℕ) (links : List (Link V)) → length (with_links c list links).lists ≡ length c.lists
  length-with_links c list links = length-set c.lists list links

  pub links_of-same : (c : Lists V) (list : ℕ) (links : List (Link V)) → list < length c.lists → links_of (with_links c list links) list ≡ links
  links_of-same c list links h = get_or-set_same c.lists list links [] h

  pub links_of-other : (c : Lists V) (list other : ℕ) (links : List (Link V)) → other ≢ list → links_of (with_links c list links) other ≡ links_of c other
  links_of-other c list other links ne = get_or-set_other c.lists list other links [] ne

  -- a slot stands among these links, with this value
  pub record Stands (slot : ℕ) (links : List (Link V)) (value : V) : Type 0 where
    pub front : List (Link V)
    pub back : List (Link V)
    pub split : links ≡ front ++ link slot value ∷ back

  -- a link that is put into a list stands there
  pub Place-new : (c : Lists V) (list : ℕ) (front back : List (Link V)) (slot : ℕ) (v : V) → list < length c.lists
      → Place (with_links c list (front ++ link slot v ∷ back)) slot
  Place-new c list front back slot v h = record {
    list = list;
    within = omega (arith, length-with_links c list (front ++ link slot v ∷ back));
    front = front;
    value = v;
    back = back;
    split = links_of-same c list (front ++ link slot v ∷ back) h;
  }
