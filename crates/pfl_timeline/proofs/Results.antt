-- What holds of results.
use Rattle.std.specs.Prelude.{◌≡◌, Result, Ok, Err, IfOk, IfErr, OnErr, OnOk}
use Rattle.std.proofs.Common.{sym, subst}

-- what holds anyway holds after want of memory
pub anyway : {X Y P : Type 0} (r : Result X Y) → P → OnErr r P
anyway (Ok x) p = tt
anyway (Err y) p = p

-- what holds of the value holds where that is the value, and where there is none
pub if_ok : {X Y : Type 0} (r : Result X Y) (x : X) (P : X → Type 0) → r ≡ Ok x → P x → IfOk r P
if_ok r x P is p = subst (λ (q : Result _ _). IfOk q P) (sym is) p

pub as_ok : {X Y : Type 0} (r q : Result X Y) (P : X → Type 0) → r ≡ q → IfOk q P → IfOk r P
as_ok r q P is p = subst (λ (x : Result _ _). IfOk x P) (sym is) p

-- what holds anyway holds of each value, and where there is none
pub ok_anyway : {X Y P : Type 0} (r : Result X Y) → P → OnOk r P
ok_anyway (Ok x) p = p
ok_anyway (Err y) p = tt

pub no_ok : {X Y : Type 0} (r : Result X Y) (y : Y) (P : Type 0) → r ≡ Err y → OnOk r P
no_ok r y P is = subst (λ (q : Result _ _). OnOk q P) (sym is) tt

-- what holds of the error, and of none where there is no error
pub if_err : {X Y : Type 0} (r : Result X Y) (y : Y) (P : Y → Type 0) → r ≡ Err y → P y → IfErr r P
if_err r y P is p = subst (λ (q : Result _ _). IfErr q P) (sym is) p

pub not_err : {X Y : Type 0} (r : Result X Y) (x : X) (P : Y → Type 0) → r ≡ Ok x → IfErr r P
not_err r x P is = subst (λ (q : Result _ _). IfErr q P) (sym is) tt

pub not_ok : {X Y : Type 0} (r : Result X Y) (y : Y) (P : X → Type 0) → r ≡ Err y → IfOk r P
not_ok r y P is = subst (λ (q : Result _ _). IfOk q P) (sym is) tt

-- what follows from either outcome
pub either : {X Y P : Type 0} (r : Result X Y) (Q : X → Type 0) → IfOk r Q → ((x : X) → Q x → P) → OnErr r P → P
either (Ok x) Q ok given err = given x ok
either (Err y) Q ok given err = err
