-- The message of a reading that was overtaken (this project's profile).
use Rattle.std.specs.Prelude.{ℕ, List, ◌++◌, codes}
use Rattle.std.specs.Fmt.{decimal}

-- the last try began at the number `at`, and at its end the number was `now`
abbrev pub overtaken_text : ℕ → ℕ → List ℕ
overtaken_text at now = codes "overtaken at revision " ++ decimal at ++ codes " by revision " ++ decimal now
