-- What contracts see of a half (this project's profile).
use Rattle.std.specs.Prelude.{ℕ}
use Rattle.atomic_table.specs.Seated.{TableId}

pub record Count : Type 0 where
  pub table : TableId
  pub count : ℕ
