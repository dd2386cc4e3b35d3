-- Texts by where they lie among bytes.
use Rattle.std.specs.Prelude.{ℕ, Bool, ◌&&◌, nat_le, List, length, map, slice_range}
use Rattle.std.specs.List.{list_all}
use Rattle.syslog_in.specs.declared.frames.FrameSpan.{FrameSpan}

abbrev pub texts_at : List ℕ → List FrameSpan → List (List ℕ)
texts_at bytes spans = map (λ span. slice_range bytes span.start span.end) spans

-- each lies inside
abbrev pub are_inside : List ℕ → List FrameSpan → Bool
are_inside bytes spans = list_all (λ span. nat_le span.start span.end && nat_le span.end (length bytes)) spans
