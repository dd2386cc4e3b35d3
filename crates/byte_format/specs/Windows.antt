-- A format within a window of bytes.
use Rattle.std.specs.Prelude.{ℕ, ◌-◌, ◌==◌, ◌&&◌, false, length, nat_le, if◌then◌else◌}
use Rattle.byte_format.specs.Format.{Format, value, item, exactly}

-- the format on exactly the next n bytes, whatever comes after them
abbrev pub inside : {A : Type 0} → ℕ → Format A → Format A
inside n (value x) = if n == 0 then value x else item (exactly 0) (λ bytes. false) (λ bytes. value x)
inside n (item size form next) =
    item size (λ bytes. nat_le (length bytes) n && form bytes) (λ bytes. inside (n - length bytes) (next bytes))
