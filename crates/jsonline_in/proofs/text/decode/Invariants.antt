use Rattle.std.proofs.Common.{length, string_bytes}
use denote.Text.{Utf8}
use denote.Shadow.{shadow}
use Rattle.jsonline_in.specs.Reading.{characters_at}
use Rattle.jsonline_in.proofs.Decoding.{Decoded}
use Rattle.jsonline_in.proofs.text.decode.Given as goal

abbrev pub invariant-characters : goal.invariant-characters
invariant-characters l = shadow (Utf8 l.rest) × Decoded (string_bytes l.fn.out) (string_bytes l.out) l.before l.rest
    (characters_at l.text)

abbrev pub decreases-characters : goal.decreases-characters
decreases-characters l = length l.rest
