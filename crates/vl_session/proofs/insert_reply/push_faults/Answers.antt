use Rattle.std.proofs.Common.{◌≡◌, List, ℕ, ◌-◌, ◌++◌, codes, drop, flat_map, get_or, length, string_bytes, take, ap, sym, ◌∙◌, append_assoc, arith}
use Rattle.json.specs.Print.{escape}
use Rattle.ingest_row.specs.declared.body.LineFault.{LineFault}
use Rattle.ingest_row.specs.declared.kind.LineKind.TheVariants.{LineLong}
use Rattle.vl_session.specs.Insert.{fault_fields, named_line}
use Rattle.vl_session.specs.Said.{later_line, later_member}
use Rattle.vl_session.proofs.InsertLemmas.{faults_from}
use Rattle.vl_session.proofs.insert_reply.push_faults.Goals as goal

regroup : (text name first others : List ℕ) → text ++ (name ++ (first ++ others)) ≡ ((text ++ name) ++ first) ++ others
regroup text name first others = simp append_assoc

-- the pieces, as they were appended
appended : (text name first others one two all : List ℕ) → one ≡ text ++ name → two ≡ one ++ first
    → all ≡ name ++ (first ++ others) → text ++ all ≡ two ++ others
appended text name first others one two all is_one is_two is_all =
    ap (λ l. text ++ l) is_all ∙ regroup text name first others
    ∙ sym (ap (λ l. l ++ others) (is_two ∙ ap (λ l. l ++ first) is_one))

pub returns : goal.returns
returns c =
    let refused : List LineFault = c.args.refused.now in
    let none : LineFault = record { line = 0; kind = LineLong } in
    let others : List ℕ = flat_map later_line (take c.min.result (take (length refused - 1) (drop 1 refused))) in
    let all : string_bytes c.args.text.now ++ flat_map later_member (fault_fields c.args.refused.now)
    ≡ string_bytes c.push_named.new.text ++ others =
    appended (string_bytes c.args.text.now) (codes "\",\"faults\":\"") (escape (named_line (get_or refused 0 none)))
    others (string_bytes c.push_str.new.self) (string_bytes c.push_named.new.text)
    (flat_map later_member (fault_fields c.args.refused.now)) c.in_ok-push_str.ensures.bytes
    c.in_ok-push_named.ensures
    (faults_from refused none c.min.result (omega (arith, c.in-len1-up.len_at_least)) c.min.ensures) in
    rw all c.push_others.ensures
