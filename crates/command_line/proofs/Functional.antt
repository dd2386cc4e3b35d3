-- Words are at most one command.
use Rattle.std.proofs.Common.{◌≡◌, ℕ, ◌^◌, ◌-◌, ◌<◌, List, get_or, [], Option, Some, None, Result, Ok, Err, IfErr, IfOk, ◌⊎◌, inl, inr, refl, sym, ap, subst, ◌∙◌, arith}
use Rattle.std.proofs.lemmas.Option.{same_Some}
use Rattle.std.specs.Prelude.{codes}
use Rattle.clap.specs.Faults.{fault_of}
use Rattle.clap.specs.Simple.{subcommand_of}
use Rattle.clap.specs.Walk.{Row, Text, first_of}
use Rattle.command_line.proofs.Numbers.{one_number}
use Rattle.command_line.specs.Asked.{AreWorkers, HasValues, IsCommand, most_workers, name_of}
use Rattle.command_line.specs.Program.{program}
use Rattle.command_line.specs.declared.command.Command.{Command}
use Rattle.command_line.specs.declared.command.Command.TheVariants.{Pipe, Load, Query, Trial, Serve}
use Rattle.command_line.specs.declared.fault.UsageFault.{UsageFault}
use Rattle.command_line.specs.declared.fault.UsageFault.TheVariants.{Memory, Usage}

-- a value is one count of workers
one_count : (most : ℕ) (value : Option Text) (m n : ℕ) → most < 2 ^ 64
    → AreWorkers most value m → AreWorkers most value n → m ≡ n
one_count most None m n small a b = a ∙ sym b
one_count most (Some text) m n small a b = one_number 1 most (Some text) m n small a b

few_workers : (syslog : Option Text) → most_workers syslog < 2 ^ 64
few_workers None = omega arith
few_workers (Some address) = omega arith

-- words that begin with different bytes are different
abbrev first_byte : Text → ℕ
first_byte text = get_or text 0 0

-- what holds of each command of the name `pipe` is what holds of one that pipes, and so on
pub piped : (values : List Row) (P : Command → Type 0)
    → ((f : Option Text) (q : Text) → HasValues values (Pipe f q) → P (Pipe f q))
    → (c : Command) → codes "pipe" ≡ name_of c → HasValues values c → P c
piped values P each (Pipe f q) name has = each f q has
piped values P each (Load d f) name has = absurd (omega (arith, ap first_byte name))
piped values P each (Query d q) name has = absurd (omega (arith, ap first_byte name))
piped values P each (Trial s m) name has = absurd (omega (arith, ap first_byte name))
piped values P each (Serve d h s m) name has = absurd (omega (arith, ap first_byte name))

pub loaded : (values : List Row) (P : Command → Type 0)
    → ((d : Text) (f : Option Text) → HasValues values (Load d f) → P (Load d f))
    → (c : Command) → codes "load" ≡ name_of c → HasValues values c → P c
loaded values P each (Load d f) name has = each d f has
loaded values P each (Pipe f q) name has = absurd (omega (arith, ap first_byte name))
loaded values P each (Query d q) name has = absurd (omega (arith, ap first_byte name))
loaded values P each (Trial s m) name has = absurd (omega (arith, ap first_byte name))
loaded values P each (Serve d h s m) name has = absurd (omega (arith, ap first_byte name))

pub queried : (values : List Row) (P : Command → Type 0)
    → ((d q : Text) → HasValues values (Query d q) → P (Query d q))
    → (c : Command) → codes "query" ≡ name_of c → HasValues values c → P c
queried values P each (Query d q) name has = each d q has
queried values P each (Pipe f q) name has = absurd (omega (arith, ap first_byte name))
queried values P each (Load d f) name has = absurd (omega (arith, ap first_byte name))
queried values P each (Trial s m) name has = absurd (omega (arith, ap first_byte name))
queried values P each (Serve d h s m) name has = absurd (omega (arith, ap first_byte name))

pub tried : (values : List Row) (P : Command → Type 0)
    → ((s m : ℕ) → HasValues values (Trial s m) → P (Trial s m))
    → (c : Command) → codes "trial" ≡ name_of c → HasValues values c → P c
tried values P each (Trial s m) name has = each s m has
tried values P each (Pipe f q) name has = absurd (omega (arith, ap first_byte name))
tried values P each (Load d f) name has = absurd (omega (arith, ap first_byte name))
tried values P each (Query d q) name has = absurd (omega (arith, ap first_byte name))
tried values P each (Serve d h s m) name has = absurd (omega (arith, ap first_byte name))

pub served : (values : List Row) (P : Command → Type 0)
    → ((d h : Text) (s : Option Text) (m : ℕ) → HasValues values (Serve d h s m) → P (Serve d h s m))
    → (c : Command) → codes "serve" ≡ name_of c → HasValues values c → P c
served values P each (Serve d h s m) name has = each d h s m has
served values P each (Pipe f q) name has = absurd (omega (arith, ap first_byte name))
served values P each (Load d f) name has = absurd (omega (arith, ap first_byte name))
served values P each (Query d q) name has = absurd (omega (arith, ap first_byte name))
served values P each (Trial s m) name has = absurd (omega (arith, ap first_byte name))

-- what is refused as usage is refused where more is refused
pub refused_more : {T P Q : Type 0} (r : Result T UsageFault) → (P → Q) → IfErr r (λ fault. fault ≡ Usage → P)
    → IfErr r (λ fault. fault ≡ Usage → Q)
refused_more (Ok x) more h = tt
refused_more (Err fault) more h = λ usage. more (h usage)

pub same_values : (values : List Row) (a b : Command) → name_of a ≡ name_of b → HasValues values a → HasValues values b
    → a ≡ b
same_values values (Pipe f q) b names is has = piped values (λ c. Pipe f q ≡ c) (λ g r same.
    let fields : f ≡ g = sym is.0 ∙ same.0 in
    let queries : q ≡ r = same_Some q r (sym is.1 ∙ same.1) in
    cc
    ) b names has
same_values values (Load d f) b names is has = loaded values (λ c. Load d f ≡ c) (λ e g same.
    let directories : d ≡ e = same_Some d e (sym is.0 ∙ same.0) in
    let fields : f ≡ g = sym is.1 ∙ same.1 in
    cc
    ) b names has
same_values values (Query d q) b names is has = queried values (λ c. Query d q ≡ c) (λ e r same.
    let directories : d ≡ e = same_Some d e (sym is.0 ∙ same.0) in
    let queries : q ≡ r = same_Some q r (sym is.1 ∙ same.1) in
    cc
    ) b names has
same_values values (Trial s m) b names is has = tried values (λ c. Trial s m ≡ c) (λ t n same.
    let seeds = one_number 0 (2 ^ 63 - 1) _ s t (omega arith) is.0 same.0 in
    let rows = one_number 0 1000000 _ m n (omega arith) is.1 same.1 in
    cc
    ) b names has
same_values values (Serve d h s m) b names is has = served values (λ c. Serve d h s m ≡ c) (λ e i t n same.
    let directories : d ≡ e = same_Some d e (sym is.0 ∙ same.0) in
    let addresses : h ≡ i = same_Some h i (sym is.1 ∙ same.1) in
    let syslogs : s ≡ t = sym is.2 ∙ same.2 in
    let P : Option Text → Type 0 = λ x. AreWorkers (most_workers x) (first_of (codes "workers") values) n in
    let workers = one_count (most_workers s) _ m n (few_workers s) is.3 (subst P (sym syslogs) same.3) in
    cc
    ) b names has

pub one_command : (words : List Text) (a b : Command) → IsCommand words a → IsCommand words b → a ≡ b
one_command words a b of_a of_b =
    let same : (name_of a, of_a.values) ≡ (name_of b, of_b.values) = same_Some _ _ (sym of_a.named ∙ of_b.named) in
    let P : List Row → Type 0 = λ values. HasValues values b in
    same_values of_a.values a b (ap (λ p. p.0) same) of_a.said (subst P (sym (ap (λ p. p.1) same)) of_b.said)

-- what is read of a name and values is complete
pub complete : (words : List Text) (r : Result Command UsageFault) (name : Text) (values : List Row)
    → fault_of program words ≡ [] → subcommand_of program words ≡ Some (name, values)
    → IfOk r (λ c. (name ≡ name_of c) × HasValues values c)
    → IfErr r (λ fault. fault ≡ Usage → (c : Command) → name ≡ name_of c → HasValues values c → ⊥)
    → (c : Command) → IsCommand words c → (r ≡ Ok c) ⊎ (r ≡ Err Memory)
complete words (Ok d) name values taken named read refused c is =
    let of_d : IsCommand words d = record {
      values = values;
      taken = taken;
      named = named ∙ ap (λ n. Some (n, values)) read.0;
      said = read.1;
    } in
    inl (ap Ok (one_command words d c of_d is))
complete words (Err Memory) name values taken named read refused c is = inr refl
complete words (Err Usage) name values taken named read refused c is =
    let same : (name, values) ≡ (name_of c, is.values) = same_Some _ _ (sym named ∙ is.named) in
    let P : List Row → Type 0 = λ v. HasValues v c in
    absurd (refused refl c (ap (λ p. p.0) same) (subst P (sym (ap (λ p. p.1) same)) is.said))
