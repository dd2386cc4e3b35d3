-- Chunk lines and trailer sections: what is decided by a front of the bytes is decided by all.
use Rattle.std.proofs.Common.{◌≡◌, ◌⊎◌, ℕ, ◌≤◌, List, ◌++◌, map, take, drop, length, refl, ap, sym}
use Rattle.std.proofs.Common.{subst, ◌∙◌}
use Rattle.std.proofs.Common.{inl, inr, arith, append_assoc, length-append}
use Rattle.std.proofs.lemmas.List.{take-append-drop, drop-append-le, length-map, length-take}
use Rattle.httparse.specs.Grammar.{ChunkLine, NeverHasChunkLine, print_chunk_line}
use Rattle.httparse.specs.Grammar.{print_section}
use Rattle.httparse.specs.Spans.{IsChunkLineAt, IsSectionOf, IsSectionWithin, header_bytes, name_and_value}
use Rattle.httparse.specs.declared.spans.HeaderSpan.{HeaderSpan}
use Rattle.std.specs.Prelude.{IfErr, Result, Ok, Err}
use Rattle.http_in.specs.Faults.{HasBadLine, IsInLine, IsInSection}
use Rattle.http_in.specs.Limits.{field_limit, head_limit}
use Rattle.http_in.specs.Progress.{HasTrailerFault, IsLineAt, IsOutside, IsTrailerAt, StopsAtLine, StopsAtTrailer}
use Rattle.http_in.specs.declared.fault.RequestFault.{RequestFault}
use Rattle.http_in.specs.declared.fault.RequestFault.TheVariants as faults
use Rattle.http_in.specs.declared.line.Line.{Line}

front_short : (n : ℕ) (bytes : List ℕ) → n ≤ head_limit → length (take n bytes) ≤ head_limit
front_short n bytes few = omega (arith, length-take n bytes)

pub bad_line : (n : ℕ) (bytes : List ℕ) → n ≤ head_limit → NeverHasChunkLine (take n bytes) → HasBadLine bytes
bad_line n bytes few never =
    inl (take n bytes, drop n bytes, sym (take-append-drop n bytes), front_short n bytes few, never)

-- what stands after a piece at the front of a front
behind : (len : ℕ) (front later piece : List ℕ) → front ≡ piece ++ drop len front → len ≤ length front
    → front ++ later ≡ piece ++ drop len (front ++ later)
behind len front later piece e fits =
    ap (λ l. l ++ later) e ∙ append_assoc piece (drop len front) later
    ∙ ap (λ l. piece ++ l) (sym (drop-append-le len front later fits))

line_more : (front later : List ℕ) (at : Line) (line : ChunkLine) → length front ≤ head_limit
    → IsChunkLineAt front at.len at.size line → IsLineAt (front ++ later) at
line_more front later at line short is =
    let text : List ℕ = print_chunk_line line in
    let fits : at.len ≤ length front =
    omega (arith, is.len_is, ap length is.reads.1, length-append text (drop at.len front)) in
    record {
      line = line;
      is_line = record { form = is.reads.0; short = omega (arith, fits, is.len_is, short) };
      whole = behind at.len front later text is.reads.1 fits;
      len = is.len_is;
      fits = omega (arith, fits, length-append front later);
      size = is.size_is;
    }

pub line_at : (n : ℕ) (bytes : List ℕ) (at : Line) (line : ChunkLine) → n ≤ head_limit
    → IsChunkLineAt (take n bytes) at.len at.size line → IsLineAt bytes at
line_at n bytes at line few is =
    subst (λ l. IsLineAt l at) (take-append-drop n bytes)
    (line_more (take n bytes) (drop n bytes) at line (front_short n bytes few) is)

pub trailer_more : (front later : List ℕ) (len : ℕ) → IsTrailerAt front len → IsTrailerAt (front ++ later) len
trailer_more front later len is = record {
  fields = is.fields;
  last = is.last;
  section = is.section;
  whole = behind len front later (print_section is.fields is.last) is.whole is.fits;
  len_is = is.len_is;
  fits = omega (arith, is.fits, length-append front later);
}

pub trailer_front : (n : ℕ) (bytes : List ℕ) (len : ℕ) → IsTrailerAt (take n bytes) len → IsTrailerAt bytes len
trailer_front n bytes len is =
    subst (λ l. IsTrailerAt l len) (take-append-drop n bytes) (trailer_more (take n bytes) (drop n bytes) len is)

pub trailer_at : (front : List ℕ) (headers : List HeaderSpan) (len count : ℕ) → length front ≤ head_limit
    → length headers ≤ field_limit → IsSectionWithin front headers len count → IsSectionOf front 0 headers (len, count)
    → IsTrailerAt front len
trailer_at front headers len count short room within of =
    let fields = of.0 in
    let at = of.2 in
    let same : length (map (header_bytes front) (take count headers)) ≡ length (map name_and_value fields) =
    ap length at.fields_are in
    record {
      fields = fields;
      last = of.1;
      section = record {
        each = at.reads.0;
        short = omega (arith, at.len_is, within.len_fits, short);
        few = omega (
          arith,
          same,
          length-map (take count headers)
              (header_bytes front),
          length-map fields name_and_value,
          length-take count headers,
          room,
        );
      };
      whole = at.reads.1;
      len_is = omega (arith, at.len_is);
      fits = within.len_fits;
    }

-- ---- why the whole line is missing

pub line_bad : (start at : ℕ) (bytes : List ℕ) (ended : Type 0) (fault : RequestFault)
    → (fault ≡ faults.BadChunk at) × HasBadLine bytes → StopsAtLine start at bytes ended fault
line_bad start at bytes ended fault f = subst (StopsAtLine start at bytes ended) (sym f.0) (refl, f.1)

pub line_outside : (start at : ℕ) (bytes : List ℕ) (ended : Type 0) (fault : RequestFault) → IsOutside fault
    → IsInLine bytes → StopsAtLine start at bytes ended fault
line_outside start at bytes ended faults.SourceFault is inside = inside
line_outside start at bytes ended (faults.BadHead x) is inside = absurd is
line_outside start at bytes ended (faults.Cut x) is inside = absurd is
line_outside start at bytes ended faults.HeadLarge is inside = absurd is
line_outside start at bytes ended faults.BodyLarge is inside = absurd is
line_outside start at bytes ended faults.BadLength is inside = absurd is
line_outside start at bytes ended (faults.BadChunk x) is inside = absurd is
line_outside start at bytes ended faults.Coding is inside = absurd is
line_outside start at bytes ended faults.Memory is inside = tt

-- the same of a result that is this fault where the line is not whole
pub line_stops : {A : Type 0} (r : Result A RequestFault) (start at : ℕ) (slice bytes : List ℕ) (ended : Type 0)
    (fault : RequestFault) → slice ≡ bytes → (IsInLine bytes → StopsAtLine start at bytes ended fault)
    → IfErr r (λ e. ((e ≡ fault) × IsInLine slice) ⊎ ((e ≡ faults.BadChunk at) × HasBadLine slice))
    → IfErr r (StopsAtLine start at bytes ended)
line_stops (Ok x) start at slice bytes ended fault same stops e = tt
line_stops (Err x) start at slice bytes ended fault same stops (inl e) =
    subst (StopsAtLine start at bytes ended) (sym e.0) (stops (subst IsInLine same e.1))
line_stops (Err x) start at slice bytes ended fault same stops (inr e) =
    subst (λ l. StopsAtLine start at l ended x) same (line_bad start at slice ended x e)

-- ---- why the whole trailer section is missing

pub trailer_bad : (start at : ℕ) (bytes : List ℕ) (ended : Type 0) (fault : RequestFault)
    → HasTrailerFault at bytes fault → StopsAtTrailer start at bytes ended fault
trailer_bad start at bytes ended fault (inl f) = subst (StopsAtTrailer start at bytes ended) (sym f.0) (refl, f.1)
trailer_bad start at bytes ended fault (inr f) = subst (StopsAtTrailer start at bytes ended) (sym f.0) f.1

pub trailer_outside : (start at : ℕ) (bytes : List ℕ) (ended : Type 0) (fault : RequestFault) → IsOutside fault
    → IsInSection bytes → StopsAtTrailer start at bytes ended fault
trailer_outside start at bytes ended faults.SourceFault is inside = inside
trailer_outside start at bytes ended (faults.BadHead x) is inside = absurd is
trailer_outside start at bytes ended (faults.Cut x) is inside = absurd is
trailer_outside start at bytes ended faults.HeadLarge is inside = absurd is
trailer_outside start at bytes ended faults.BodyLarge is inside = absurd is
trailer_outside start at bytes ended faults.BadLength is inside = absurd is
trailer_outside start at bytes ended (faults.BadChunk x) is inside = absurd is
trailer_outside start at bytes ended faults.Coding is inside = absurd is
trailer_outside start at bytes ended faults.Memory is inside = tt

pub trailer_stops : {A : Type 0} (r : Result A RequestFault) (start at : ℕ) (slice bytes : List ℕ) (ended : Type 0)
    (fault : RequestFault) → slice ≡ bytes → (IsInSection bytes → StopsAtTrailer start at bytes ended fault)
    → IfErr r (λ e. ((e ≡ fault) × IsInSection slice) ⊎ HasTrailerFault at slice e)
    → IfErr r (StopsAtTrailer start at bytes ended)
trailer_stops (Ok x) start at slice bytes ended fault same stops e = tt
trailer_stops (Err x) start at slice bytes ended fault same stops (inl e) =
    subst (StopsAtTrailer start at bytes ended) (sym e.0) (stops (subst IsInSection same e.1))
trailer_stops (Err x) start at slice bytes ended fault same stops (inr e) =
    subst (λ l. StopsAtTrailer start at l ended x) same (trailer_bad start at slice ended x e)
