-- Laws of what is turned away: each request is, whichever its method, and nothing else but what no line of a session can be.
use Rattle.std.specs.Prelude.{◌≡◌, ◌≢◌, ◌⊎◌, ◌<◌, ℕ, true, false, List, [], ◌∷◌, ◌++◌, ◌||◌, length, take, codes}
use Rattle.std.specs.Char.{is_ascii_digit}
use Rattle.std.specs.List.{AllByRecursion}
use Rattle.pfl_doors.specs.Requests.{is_command, is_comment, is_request, is_word_byte}
use Rattle.pfl_doors.specs.Screens.{screened}

-- a word, or nothing
abbrev pub IsWord : List ℕ → Type 0
IsWord = AllByRecursion (λ b. is_word_byte b ≡ true)

-- the first line of a request, without its end (RFC 9112, section 3): a method, one space, a target, one space and a version. Methods and
-- targets are words, and a target begins with a slash where a browser itself connects (section 3.2.1)
pub record IsRequestLine (line : List ℕ) : Type 0 where
  pub method : List ℕ
  pub target : List ℕ
  pub digit : ℕ
  pub is_method : IsWord method
  pub some : 0 < length method
  pub is_target : IsWord target
  pub is_digit : is_ascii_digit digit ≡ true
  pub is : line ≡ method ++ codes " /" ++ target ++ codes " HTTP/1." ++ digit ∷ []

-- bytes begin with the first line of a request, which a carriage return or a line feed ends
pub record BeginsRequest (bytes : List ℕ) : Type 0 where
  pub line : List ℕ
  pub end : ℕ
  pub rest : List ℕ
  pub is_line : IsRequestLine line
  pub ends : (end ≡ 13) ⊎ (end ≡ 10)
  pub is : bytes ≡ line ++ end ∷ rest

-- bytes begin with a word, one space and a slash, and neither a comment nor a line of a session begins with the word
pub record BeginsForeign (bytes : List ℕ) : Type 0 where
  pub word : List ℕ
  pub rest : List ℕ
  pub is_word : IsWord word
  pub some : 0 < length word
  pub foreign : (is_comment word || is_command word) ≡ false
  pub is : bytes ≡ word ++ codes " /" ++ rest

-- the first line has more than 512 bytes
abbrev pub IsLong : List ℕ → Type 0
IsLong bytes = (512 < length bytes) × AllByRecursion (λ b. b ≢ 10) (take 513 bytes)

-- of what begins as a request nothing is taken, whichever its method, and however long this and the target are
abbrev pub RequestsAreTurnedAway : Type 0
RequestsAreTurnedAway = (bytes : List ℕ) → BeginsRequest bytes → screened bytes ≡ []

-- what is turned away is a request, or begins as no line of a session does, or with a line that is too long for one
abbrev pub OthersAreTaken : Type 0
OthersAreTaken = (bytes : List ℕ) → is_request bytes ≡ true → BeginsRequest bytes ⊎ (BeginsForeign bytes ⊎ IsLong bytes)
