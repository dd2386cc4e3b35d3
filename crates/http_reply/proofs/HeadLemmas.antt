-- A head split around the length of the content.
use Rattle.std.proofs.Common.{◌≡◌, ℕ, false, List, ◌++◌, ap, sym, ◌∙◌, codes, decimal, flat_map}
use Rattle.std.proofs.Common.{append_assoc}
use Rattle.std.proofs.lemmas.Grind.{flat_map-append}
use Rattle.http_reply.specs.Reply.{allow_fields, close_fields, field_line, head_bytes, kind_of, line_end, media_type, status_line}
use Rattle.http_reply.specs.declared.status.Delivery.{Delivery}
use Rattle.http_reply.specs.declared.status.Status.{Status}

-- the header fields up to the digits of the length
abbrev up_to_length : Status → List ℕ
up_to_length status =
    flat_map field_line (allow_fields status)
    ++ (field_line (codes "Content-Type", media_type (kind_of status)) ++ codes "Content-Length: ")

-- the head after the digits of the length
abbrev pub after_length : Delivery → List ℕ
after_length delivery = line_end ++ (flat_map field_line (close_fields delivery.closes) ++ line_end)

abbrev pub before_length : Status → List ℕ
before_length status = codes "HTTP/1.1 " ++ (status_line status ++ (line_end ++ up_to_length status))

regroup : (h s e a t l d c : List ℕ)
    → (h ++ (s ++ (e ++ (a ++ (t ++ l))))) ++ (d ++ (e ++ (c ++ e)))
    ≡ h ++ (s ++ (e ++ ((a ++ (t ++ ((l ++ (d ++ e)) ++ c))) ++ e)))
regroup h s e a t l d c = simp append_assoc

pub around_length : (status : Status) (length : ℕ) (delivery : Delivery) → delivery.bare ≡ false
    → before_length status ++ (decimal length ++ after_length delivery) ≡ head_bytes status length delivery
unfolding head_bytes
around_length status length delivery has =
    rw has
    (regroup (codes "HTTP/1.1 ") (status_line status) line_end (flat_map field_line (allow_fields status))
    (field_line (codes "Content-Type", media_type (kind_of status))) (codes "Content-Length: ") (decimal length)
    (flat_map field_line (close_fields delivery.closes))
    ∙ ap (λ fields. codes "HTTP/1.1 " ++ (status_line status ++ (line_end ++ (fields ++ line_end))))
    (sym (flat_map-append field_line (allow_fields status) _)))
