-- Reading bytes that are still coming: what they begin with and the bytes after it, or that more are needed, or that
-- nothing begins so.
use Rattle.std.specs.Prelude.{◌≡◌, ℕ, Bool, List, [], ◌∷◌, length, take, drop, nat_lt, if◌then◌else◌, Result, Ok, Err}
use Rattle.std.specs.Int.{Width, w64, byte_len, from_be_bytes}
use Rattle.desk_codec.specs.declared.fault.Lack.{Lack}
use Rattle.desk_codec.specs.declared.fault.Lack.TheVariants.{Needs, NoSpelling}

-- what bytes begin with, and the bytes after it
abbrev pub FrontReader : Type 0 → Type 0
FrontReader A = List ℕ → Result (A × List ℕ) Lack

-- The result is what was read, seen by a view of it.
abbrev pub GivesFront : {X Y : Type 0} → (X → Y) → Result X Lack → Result Y Lack → Type 0
GivesFront view (Ok x) read = read ≡ Ok (view x)
GivesFront view (Err lack) read = read ≡ Err lack

-- one after the other
infixl 10 ◌>>=◌
abbrev pub ◌>>=◌ : {A B : Type 0} → Result A Lack → (A → Result B Lack) → Result B Lack
(Ok x) >>= f = f x
(Err lack) >>= f = Err lack

-- one byte, as a number
abbrev pub front_byte : FrontReader ℕ
front_byte [] = Err Needs
front_byte (b ∷ rest) = Ok (b, rest)

-- a number of this width
abbrev pub front_number : Width → FrontReader ℕ
front_number w bytes = if nat_lt (length bytes) (byte_len w) then Err Needs
    else Ok (from_be_bytes w (take (byte_len w) bytes), drop (byte_len w) bytes)

-- a number of eight bytes
abbrev pub front_long : FrontReader ℕ
front_long = front_number w64

-- only what passes a test
abbrev pub front_checked : {A : Type 0} → (A → Bool) → FrontReader A → FrontReader A
front_checked test a bytes = a bytes >>= λ x. if test x.0 then Ok (x.0, x.1) else Err NoSpelling

-- what is there, or this
abbrev pub front_maybe : {A : Type 0} → Bool → A → FrontReader A → FrontReader A
front_maybe there other a bytes = if there then a bytes else Ok (other, bytes)
