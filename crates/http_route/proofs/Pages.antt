-- Replies to reading faults, which are fixed texts.
use Rattle.std.proofs.Common.{◌≡◌, ◌++◌, [], ◌∷◌, refl, arith}
use Rattle.std.specs.Prelude.{codes, decimal}
use Rattle.std.proofs.lemmas.Fmt.{decimal_digit}
use Rattle.http_reply.proofs.Pages.{ten}
use Rattle.http_reply.specs.Reply.{head_bytes, reply_bytes}
use Rattle.http_reply.specs.declared.status.Status.TheVariants as statuses
use Rattle.http_route.specs.Refusal.{last_delivery}

seven : decimal 7 ≡ 55 ∷ []
seven = decimal_digit 7 (omega arith)

eight : decimal 8 ≡ 56 ∷ []
eight = decimal_digit 8 (omega arith)

nine : decimal 9 ≡ 57 ∷ []
nine = decimal_digit 9 (omega arith)

pub bad_head : codes "HTTP/1.1 400 Bad Request\r\n"
    ++ codes "Content-Type: text/plain; charset=utf-8\r\nContent-Length: 8\r\nConnection: close\r\n\r\nBadHead\n"
    ≡ reply_bytes statuses.BadRequest (codes "BadHead\n") last_delivery
unfolding head_bytes
bad_head = rw eight refl

pub head_large : codes "HTTP/1.1 400 Bad Request\r\n"
    ++ codes "Content-Type: text/plain; charset=utf-8\r\nContent-Length: 10\r\nConnection: close\r\n\r\nHeadLarge\n"
    ≡ reply_bytes statuses.BadRequest (codes "HeadLarge\n") last_delivery
unfolding head_bytes
head_large = rw ten refl

pub body_large : codes "HTTP/1.1 413 Content Too Large\r\n"
    ++ codes "Content-Type: text/plain; charset=utf-8\r\nContent-Length: 10\r\nConnection: close\r\n\r\nBodyLarge\n"
    ≡ reply_bytes statuses.ContentTooLarge (codes "BodyLarge\n") last_delivery
unfolding head_bytes
body_large = rw ten refl

pub bad_length : codes "HTTP/1.1 400 Bad Request\r\n"
    ++ codes "Content-Type: text/plain; charset=utf-8\r\nContent-Length: 10\r\nConnection: close\r\n\r\nBadLength\n"
    ≡ reply_bytes statuses.BadRequest (codes "BadLength\n") last_delivery
unfolding head_bytes
bad_length = rw ten refl

pub bad_chunk : codes "HTTP/1.1 400 Bad Request\r\n"
    ++ codes "Content-Type: text/plain; charset=utf-8\r\nContent-Length: 9\r\nConnection: close\r\n\r\nBadChunk\n"
    ≡ reply_bytes statuses.BadRequest (codes "BadChunk\n") last_delivery
unfolding head_bytes
bad_chunk = rw nine refl

pub coding : codes "HTTP/1.1 415 Unsupported Media Type\r\n"
    ++ codes "Content-Type: text/plain; charset=utf-8\r\nContent-Length: 7\r\nConnection: close\r\n\r\nCoding\n"
    ≡ reply_bytes statuses.UnsupportedMediaType (codes "Coding\n") last_delivery
unfolding head_bytes
coding = rw seven refl
