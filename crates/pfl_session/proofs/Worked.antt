-- Worked cases.
use Rattle.std.specs.Prelude.{◌≡◌, [], ◌∷◌, Some, None, refl}
use Rattle.pfl_session.specs.declared.entry.Entry.{Entry}
use Rattle.pfl_session.specs.Made.{made_after}

-- ---- what is sent to a session of a journal of two entries

module _ {M : Type 0} (one two : Entry M) where
  told_of_the_first : made_after 0 (one ∷ two ∷ []) ≡ Some (record { number = 1; session = one.session; command = one.command })
  told_of_the_first = refl

  told_of_the_second : made_after 1 (one ∷ two ∷ []) ≡ Some (record { number = 2; session = two.session; command = two.command })
  told_of_the_second = refl

  told_of_no_third : made_after 2 (one ∷ two ∷ []) ≡ None
  told_of_no_third = refl
