-- What follows from what is shown of a branch, if anything is.
use Rattle.std.proofs.Common.{ℕ, List, Option, Some, None, Ok, Err, Result}
use Rattle.std.specs.Prelude.{◌≡◌, IfSome, IsSomeAnd, OnOk, OnErr, refl}

-- there is one that is shown
pub of-shown : {X : Type 0} (o : Option X) (P : X → Type 0) (R : Type 0) → ((x : X) → P x → R) → IsSomeAnd o P → R
of-shown (Some x) P R f p = f x p
of-shown None P R f p = absurd p

-- and where it went well what is true of each is true of it
pub ok-shown : {X Y E : Type 0} (o : Option X) (P Q : X → Type 0) (R : Type 0) (r : Result Y E) → ((x : X) → P x → Q x → R) → IsSomeAnd o P
    → OnOk r (IfSome o Q) → OnOk r R
ok-shown (Some x) P Q R (Ok y) f p q = f x p q
ok-shown (Some x) P Q R (Err e) f p q = tt
ok-shown None P Q R r f p q = absurd p

-- and where it did not
pub err-shown : {X Y E : Type 0} (o : Option X) (P Q : X → Type 0) (R : Type 0) (r : Result Y E) → ((x : X) → P x → Q x → R)
    → IsSomeAnd o P → OnErr r (IfSome o Q) → OnErr r R
err-shown (Some x) P Q R (Err e) f p q = f x p q
err-shown (Some x) P Q R (Ok y) f p q = tt
err-shown None P Q R r f p q = absurd p
