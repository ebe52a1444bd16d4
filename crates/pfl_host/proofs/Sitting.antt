-- Seats over connections, and what is left of them.
use Rattle.std.proofs.Common.{◌≡◌, ℕ, List, [], ◌∷◌, ◌++◌, length, map, refl, sym, ◌∙◌, ap, arith, append_assoc, subst, Option}
use Rattle.std.proofs.lemmas.List.{append-nil}
use Rattle.std.specs.declared.alloc.Global.{Global}
use Rattle.pfl_base.specs.declared.input.Input as Input
use Rattle.pfl_base.specs.declared.output.Output as Output
use Rattle.pfl_doors.specs.Screens.{Screen}
use Rattle.pfl_doors.specs.declared.doors.Sides.{Sides}
use Rattle.pfl_run.specs.timeline.Timelines.{Timeline}
use Rattle.pfl_serve.proofs.ForCallers.{served-many}
use Rattle.pfl_serve.specs.session.declared.entry.Entry.{Entry}
use Rattle.pfl_serve.specs.session.declared.which.Which as Which
use Rattle.pfl_serve.specs.Services.{ended_seat, IsService}
use Rattle.pfl_serve.specs.declared.closing.EndedSeat.{EndedSeat}
use Rattle.pfl_serve.specs.declared.seat.Seat.{Seat}
use Rattle.pfl_serve.specs.declared.seat.Served.{Served}
use Rattle.pfl_host.specs.Servers.{CameBack, CameBackAll, SitAt, SitsAt}

module _ {I W : Type 0} (left : I → Option (List ℕ)) (o : Output.Ghosts W) where
  -- one seat more
  pub sit_more : (given : List (Sides I W)) (seats : List (Seat Global Screen W)) (sides : Sides I W) (seat : Seat Global Screen W)
      → SitAt left o given seats → SitsAt left o sides seat → SitAt left o (given ++ sides ∷ []) (seats ++ seat ∷ [])
  sit_more [] [] sides seat all one = (one, tt)
  sit_more [] (s ∷ seats) sides seat all one = absurd all
  sit_more (c ∷ given) [] sides seat all one = absurd all
  sit_more (c ∷ given) (s ∷ seats) sides seat all one = (all.0, sit_more given seats sides seat all.1 one)

  -- the seats so far are over the first connections, and these are left
  pub record SeatedSoFar (given rest : List (Sides I W)) (seats : List (Seat Global Screen W)) : Type 0 where
    pub front : List (Sides I W)
    pub split : given ≡ front ++ rest
    pub sit : SitAt left o front seats

  pub seated_none : (given : List (Sides I W)) → SeatedSoFar given given []
  seated_none given = record { front = []; split = refl; sit = tt }

  pub seated_more : (given rest : List (Sides I W)) (seats : List (Seat Global Screen W)) (sides : Sides I W) (seat : Seat Global Screen W)
      → SeatedSoFar given (sides ∷ rest) seats → SitsAt left o sides seat → SeatedSoFar given rest (seats ++ seat ∷ [])
  seated_more given rest seats sides seat so_far one = record {
    front = so_far.front ++ sides ∷ [];
    split = so_far.split ∙ sym (append_assoc so_far.front (sides ∷ []) rest);
    sit = sit_more so_far.front seats sides seat so_far.sit one;
  }

  pub seated_all : (given rest : List (Sides I W)) (seats : List (Seat Global Screen W)) → SeatedSoFar given rest seats → length rest ≡ 0
      → SitAt left o given seats
  seated_all given [] seats so_far none =
      subst (λ (all : List (Sides I W)). SitAt left o all seats) (sym (so_far.split ∙ append-nil so_far.front)) so_far.sit
  seated_all given (c ∷ rest) seats so_far none = absurd (omega (arith, none))

module _ {I W : Type 0} (i : Input.Ghosts I) where
  -- one connection more came back
  pub back_one : (ended : List (EndedSeat Screen W)) (sides : List (Sides I W)) (e : EndedSeat Screen W) (s : Sides I W) → CameBackAll i ended sides
      → CameBack i e s → CameBackAll i (ended ++ e ∷ []) (sides ++ s ∷ [])
  back_one [] [] e s all one = (one, tt)
  back_one [] (t ∷ sides) e s all one = absurd all
  back_one (f ∷ ended) [] e s all one = absurd all
  back_one (f ∷ ended) (t ∷ sides) e s all one = (all.0, back_one ended sides e s all.1 one)

  -- of the first seats the connections came back, and these are left
  pub record BackSoFar (ended rest : List (EndedSeat Screen W)) (sides : List (Sides I W)) : Type 0 where
    pub front : List (EndedSeat Screen W)
    pub split : ended ≡ front ++ rest
    pub back : CameBackAll i front sides

  pub back_none : (ended : List (EndedSeat Screen W)) → BackSoFar ended ended []
  back_none ended = record { front = []; split = refl; back = tt }

  pub back_more : (ended rest : List (EndedSeat Screen W)) (sides : List (Sides I W)) (e : EndedSeat Screen W) (s : Sides I W)
      → BackSoFar ended (e ∷ rest) sides → CameBack i e s → BackSoFar ended rest (sides ++ s ∷ [])
  back_more ended rest sides e s so_far one = record {
    front = so_far.front ++ e ∷ [];
    split = so_far.split ∙ sym (append_assoc so_far.front (e ∷ []) rest);
    back = back_one so_far.front sides e s so_far.back one;
  }

  pub back_all : (ended rest : List (EndedSeat Screen W)) (sides : List (Sides I W)) → BackSoFar ended rest sides → length rest ≡ 0
      → CameBackAll i ended sides
  back_all ended [] sides so_far none =
      subst (λ (all : List (EndedSeat Screen W)). CameBackAll i all sides) (sym (so_far.split ∙ append-nil so_far.front)) so_far.back
  back_all ended (e ∷ rest) sides so_far none = absurd (omega (arith, none))

-- as many seats are left as there were
ended_many : {A I W : Type 0} (ss : List (Served A I W)) → length (map ended_seat ss) ≡ length ss
ended_many [] = refl
ended_many (s ∷ ss) = let rest = ended_many ss in omega (arith, rest)

pub service_many : {K A I W : Type 0} (j : Which.Ghosts K) (o : Output.Ghosts W) (heard : ℕ → Type 0) (seats : List (Seat A I W)) (timeline : Timeline)
    (js : List (Entry A)) (ended : List (EndedSeat I W)) → IsService j o heard seats timeline js ended → length ended ≡ length seats
service_many j o heard seats timeline js ended service =
    ap length service.ended_is ∙ (ended_many service.served ∙ served-many j o heard seats service.served service.all)

-- one more of a list was mapped
mapped_on : {X Y : Type 0} (f : X → Y) (xs : List X) (x : X) (y : Y) (rest : List Y) → f x ≡ y → map f (xs ++ x ∷ []) ++ rest ≡ map f xs ++ (y ∷ rest)
mapped_on f [] x y rest is = ap (λ z. z ∷ rest) is
mapped_on f (w ∷ xs) x y rest is = ap (λ zs. f w ∷ zs) (mapped_on f xs x y rest is)

pub mapped_more : {X Y : Type 0} (f : X → Y) (xs : List X) (x : X) (y : Y) (rest all : List Y) → map f xs ++ (y ∷ rest) ≡ all → f x ≡ y
    → map f (xs ++ x ∷ []) ++ rest ≡ all
mapped_more f xs x y rest all split is = mapped_on f xs x y rest is ∙ split

-- a list is whole where none of it is left
pub none_left : {X : Type 0} (xs rest all : List X) → xs ++ rest ≡ all → length rest ≡ 0 → xs ≡ all
none_left xs [] all split none = sym (append-nil xs) ∙ split
none_left xs (x ∷ rest) all split none = absurd (omega (arith, none))

-- a list has as many elements as what it is mapped to
mapped_many : {X Y : Type 0} (f : X → Y) (xs : List X) → length (map f xs) ≡ length xs
mapped_many f [] = refl
mapped_many f (x ∷ xs) = let rest = mapped_many f xs in omega (arith, rest)

pub as_many : {X Y : Type 0} (f : X → Y) (xs : List X) (ys : List Y) → map f xs ≡ ys → length xs ≡ length ys
as_many f xs ys is = sym (mapped_many f xs) ∙ ap length is
