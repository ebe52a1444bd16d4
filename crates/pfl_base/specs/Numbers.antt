-- Numbers of IP protocols, and the greatest number.
use Rattle.std.specs.Prelude.{◌≢◌, ℕ, ◌<◌}

-- the greatest number of 32 bits, up to which events count, and which lines may say (this project's profile)
abbrev pub greatest : ℕ
greatest = 4294967295

-- none of ICMP, TCP and UDP, which have a form of their own
pub record IsOtherNumber (n : ℕ) : Type 0 where
  pub small : n < 256
  pub not_icmp : n ≢ 1
  pub not_tcp : n ≢ 6
  pub not_udp : n ≢ 17
