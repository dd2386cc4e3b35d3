-- The fixed response when memory runs out.
use Rattle.std.proofs.Common.{◌≡◌, true, false, [], ◌∷◌, ◌++◌, refl, ap, ◌∙◌, arith}
use Rattle.std.specs.Prelude.{codes, decimal}
use Rattle.std.proofs.lemmas.Fmt.{decimal_digit, decimal_step}
use Rattle.http_reply.specs.Reply.{head_bytes, no_memory_bytes}
use Rattle.http_reply.specs.declared.status.Delivery.{Delivery}

pub ten : decimal 10 ≡ 49 ∷ 48 ∷ []
ten = decimal_step 10 (omega arith) (omega arith) ∙ ap (λ l. l ++ 48 ∷ []) (decimal_digit 1 (omega arith))

pub no_memory_open : (d : Delivery) → d.bare ≡ false → d.closes ≡ false
    → codes "HTTP/1.1 507 Insufficient Storage\r\n"
    ++ codes "Content-Type: text/plain; charset=utf-8\r\nContent-Length: 10\r\n\r\nno memory\n"
    ≡ no_memory_bytes d
unfolding head_bytes
no_memory_open d bare closes = rw bare (rw closes (rw ten refl))

pub no_memory_closing : (d : Delivery) → d.bare ≡ false → d.closes ≡ true
    → codes "HTTP/1.1 507 Insufficient Storage\r\n"
    ++ codes "Content-Type: text/plain; charset=utf-8\r\nContent-Length: 10\r\nConnection: close\r\n\r\nno memory\n"
    ≡ no_memory_bytes d
unfolding head_bytes
no_memory_closing d bare closes = rw bare (rw closes (rw ten refl))

pub no_memory_bare : (d : Delivery) → d.bare ≡ true → d.closes ≡ false
    → codes "HTTP/1.1 507 Insufficient Storage\r\n"
    ++ codes "Content-Type: text/plain; charset=utf-8\r\n\r\n" ≡ no_memory_bytes d
unfolding head_bytes
no_memory_bare d bare closes = rw bare (rw closes refl)

pub no_memory_last : (d : Delivery) → d.bare ≡ true → d.closes ≡ true
    → codes "HTTP/1.1 507 Insufficient Storage\r\n"
    ++ codes "Content-Type: text/plain; charset=utf-8\r\nConnection: close\r\n\r\n"
    ≡ no_memory_bytes d
unfolding head_bytes
no_memory_last d bare closes = rw bare (rw closes refl)
