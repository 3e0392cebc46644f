-- What is written reads back: an event and a command whose numbers fit, anywhere in a stream; a whole log.
use Rattle.model.specs.RecordsOf.{whole_record}
use Rattle.std.specs.Prelude.{Some, None, Option}
use Rattle.words.proofs.General.{ℕ, zero, suc, ◌+◌, ◌≤◌, ◌<◌, arith, ◌≡◌, refl, sym, ap, ◌∙◌, true, List, [], ◌∷◌, ◌++◌, append_assoc, append-nil, length, get_or, take, drop}
use Rattle.words.proofs.General.{length-append, get_or-append_seam, drop-append-add, take-append_seam, eqb, le-ltb, lt-ltb, pick}
use Rattle.model.specs.Kinds as kinds
use Rattle.model.specs.RecordsOf as records
use Rattle.model.proofs.Terms.{length_of, is_settings, bytes_of, number_at, record_kind_of, body_bytes, event_bytes, log_bytes, event_of, event_at, command_kind, command_body, command_bytes}
use Rattle.model.proofs.Terms.{settings_kind, rule_bytes, given_bytes, command_in, command_of, command_at, read_at, parsed, events_from, events_in}
use Rattle.model.specs.declared.Answer.TheVariants.{Hit, HitReserved, Miss, SectorMiss}
use Rattle.model.specs.declared.Refusal.TheVariants as refusal
use Rattle.model.specs.declared.Event.{Event}
use Rattle.model.specs.declared.Event.TheVariants as ev
use Rattle.model.specs.declared.Given.{Given}
use Rattle.model.specs.declared.Command.{Command}
use Rattle.model.specs.declared.Command.TheVariants as cmd
use Rattle.records.specs.Fitting.{Fitting, AllFitting, RuleFits, GivenFits, CommandFits}
use Rattle.records.proofs.Digits.{number_bytes}
use Rattle.records.proofs.Reading.{read_whole}
use Rattle.records.proofs.Encoding.{event_body_lem, command_body_lem}
use Rattle.records.proofs.Decoding as decoding

-- ---- a body by itself

body_back : (e : Event) → Fitting e → event_of (record_kind_of e) (body_bytes e) ≡ Some e
unfolding records.event_of bytes_of number_at records.length_of
body_back (ev.Answered Hit line) h = rw (number_bytes 2 line h)
body_back (ev.Answered HitReserved line) h = rw (number_bytes 2 line h)
body_back (ev.Answered Miss line) h = rw (number_bytes 2 line h)
body_back (ev.Answered SectorMiss line) h = rw (number_bytes 2 line h)
body_back (ev.Refused refusal.SettingOutOfRange) h = refl
body_back (ev.Refused refusal.SliceLength) h = refl
body_back (ev.Refused refusal.NotSound) h = refl
body_back (ev.Refused refusal.BadAccess) h = refl
body_back (ev.Refused refusal.SetBusy) h = refl
body_back (ev.Refused refusal.SetHeld) h = refl
body_back (ev.Refused refusal.QueueFull) h = refl
body_back (ev.Refused refusal.EntryFull) h = refl
body_back (ev.Refused refusal.MissTableFull) h = refl
body_back (ev.Refused refusal.NotSent) h = refl
body_back (ev.Refused refusal.BadCycle) h = refl
body_back (ev.Refused refusal.QueueEmpty) h = refl
body_back (ev.ReadQueued a) h = rw (number_bytes 8 a h)
body_back (ev.WriteBackQueued b m0 m1 m2 m3) h =
    rw (number_bytes 8 b h.block, number_bytes 4 m0 h.mask0, number_bytes 4 m1 h.mask1, number_bytes 4 m2 h.mask2, number_bytes 4 m3 h.mask3)
body_back (ev.Released t) h = rw (number_bytes 4 t h)
body_back (ev.ReadSent a) h = rw (number_bytes 8 a h)
body_back (ev.WriteBackSent b m0 m1 m2 m3) h =
    rw (number_bytes 8 b h.block, number_bytes 4 m0 h.mask0, number_bytes 4 m1 h.mask1, number_bytes 4 m2 h.mask2, number_bytes 4 m3 h.mask3)
body_back (ev.Filled a) h = rw (number_bytes 8 a h)
body_back ev.Ticked h = refl

-- a settings record by its rule
rule_kind : (u : Option ℕ) → is_settings (settings_kind u) ≡ true
rule_kind None = refl
rule_kind (Some r) = refl

rule_back : (u : Option ℕ) → RuleFits u → pick (eqb (settings_kind u) kinds.ruled) (Some (number_at (rule_bytes u) 0 1)) None ≡ u
unfolding bytes_of number_at
rule_back None h = refl
rule_back (Some r) h = rw (number_bytes 1 r h)

settings_back : (g : Given) → GivenFits g → command_in (settings_kind g.rule) (given_bytes g) ≡ Some (cmd.Settings g)
unfolding bytes_of number_at
settings_back g h =
    rw (rule_kind g.rule, number_bytes 2 g.sets h.sets, number_bytes 1 g.ways h.ways, number_bytes 1 g.dirty h.dirty, number_bytes 1 g.misses h.misses, number_bytes 1 g.readers h.readers, number_bytes 1 g.queue h.queue, rule_back g.rule h.rule)

command_body_back : (c : Command) → CommandFits c → command_of (command_kind c) (command_body c) ≡ Some c
unfolding records.command_of bytes_of number_at records.length_of
command_body_back (cmd.Settings g) h = decoding.command_sized (settings_kind g.rule) (given_bytes g) _ refl (command_body_lem (cmd.Settings g)).0 ∙ settings_back g h
command_body_back (cmd.Read a k) h = rw (number_bytes 8 a h.0, number_bytes 4 k h.1)
command_body_back (cmd.Write a m) h = rw (number_bytes 8 a h.0, number_bytes 4 m h.1)
command_body_back cmd.Send h = refl
command_body_back (cmd.Fill a) h = rw (number_bytes 8 a h)
command_body_back (cmd.Tick c) h = rw (number_bytes 4 c h)

-- ---- a record anywhere in a stream: p before it, q after it

module _ (p q : List ℕ) (k : ℕ) (bs : List ℕ) (sized : length bs ≡ length_of k) (short : length bs ≤ 24) where
  abbrev log_stream : List ℕ
  log_stream = p ++ (k ∷ (bs ++ q))

  pub record_read : read_at log_stream (length p) ≡ whole_record k (length p + 1) (length bs) (length (p ++ (k ∷ bs)))
  record_read =
      let here : length p < length log_stream = simp length-append (omega arith) in
      let g : get_or log_stream (length p) 0 ≡ k = get_or-append_seam p k (bs ++ q) 0 in
      let f : length log_stream ≡ length p + suc (length bs + length q) = simp length-append in
      let n : length p + 1 + length bs ≡ length (p ++ (k ∷ bs)) = simp length-append (omega arith) in
      sym (read_whole log_stream (length p) (length bs) here (sized ∙ ap length_of (sym g)) (λ z. omega arith) (omega arith))
      ∙ rw (g, n)

  pub record_part : take (length bs) (drop (length p + 1) log_stream) ≡ bs
  record_part = ap (take (length bs)) (drop-append-add p (k ∷ (bs ++ q)) 1) ∙ take-append_seam bs q

module _ (p q : List ℕ) where
  module _ (e : Event) where
    pub event-next : read_at (p ++ (event_bytes e ++ q)) (length p) ≡ whole_record (record_kind_of e) (length p + 1) (length (body_bytes e)) (length (p ++ event_bytes e))
    unfolding records.event_bytes
    event-next = let z = event_body_lem e in record_read p q (record_kind_of e) (body_bytes e) z.sized z.short

    event-part : take (length (body_bytes e)) (drop (length p + 1) (p ++ (event_bytes e ++ q))) ≡ body_bytes e
    unfolding records.event_bytes
    event-part = let z = event_body_lem e in record_part p q (record_kind_of e) (body_bytes e) z.sized z.short

    pub event-back : Fitting e → event_at (p ++ (event_bytes e ++ q)) (length p) ≡ Some e
    unfolding records.event_at
    event-back h = rw (event-next, event-part) (body_back e h)

    -- and it is no command
    pub event-no-command : command_at (p ++ (event_bytes e ++ q)) (length p) ≡ None
    unfolding records.command_at
    event-no-command = rw (event-next, event-part) (decoding.command_sized (record_kind_of e) (body_bytes e) _ refl (event_body_lem e).sized ∙ (event_body_lem e).other (body_bytes e))

  module _ (c : Command) where
    pub command-next : read_at (p ++ (command_bytes c ++ q)) (length p) ≡ whole_record (command_kind c) (length p + 1) (length (command_body c)) (length (p ++ command_bytes c))
    unfolding records.command_bytes
    command-next = let z = command_body_lem c in record_read p q (command_kind c) (command_body c) z.0 z.1

    command-part : take (length (command_body c)) (drop (length p + 1) (p ++ (command_bytes c ++ q))) ≡ command_body c
    unfolding records.command_bytes
    command-part = let z = command_body_lem c in record_part p q (command_kind c) (command_body c) z.0 z.1

    pub command-back : CommandFits c → command_at (p ++ (command_bytes c ++ q)) (length p) ≡ Some c
    unfolding records.command_at
    command-back h = rw (command-next, command-part) (command_body_back c h)

-- ---- a log

event_more : (e : Event) (q : List ℕ) → length (event_bytes e ++ q) ≡ suc (length (body_bytes e) + length q)
unfolding records.event_bytes
event_more e q = ap suc (length-append (body_bytes e) q)

log_from : (es : List Event) (n : ℕ) (p : List ℕ) → AllFitting es → length (log_bytes es) ≤ n → events_from n (p ++ log_bytes es) (length p) ≡ parsed es
unfolding records.events_from records.log_bytes
log_from [] zero p h g = rw (append-nil, le-ltb (length p) (length p) (omega arith))
log_from [] (suc n) p h g = rw (append-nil, le-ltb (length p) (length p) (omega arith))
log_from (e ∷ es) zero p h g = let l = event_more e (log_bytes es) in absurd (let w : ⊥ = omega arith in w)
log_from (e ∷ es) (suc n) p h g =
    let l = event_more e (log_bytes es) in
    let i : length p < length (p ++ (event_bytes e ++ log_bytes es)) = rw length-append (omega arith) in
    let r : events_from n (p ++ (event_bytes e ++ log_bytes es)) (length (p ++ event_bytes e)) ≡ parsed es =
    rw append_assoc at (log_from es n (p ++ event_bytes e) h.1 (omega arith)) in
    rw (lt-ltb (length p) (length (p ++ (event_bytes e ++ log_bytes es))) i, event-back p (log_bytes es) e h.0, event-next p (log_bytes es) e, r)

pub log_back : (es : List Event) → AllFitting es → events_in (log_bytes es) ≡ parsed es
unfolding records.events_in
log_back es h = log_from es (length (log_bytes es)) [] h (omega arith)

-- a log at the start of a buffer, with whatever stands behind it
pub log_written : (es : List Event) (e : List ℕ) → AllFitting es → events_in (take (length (log_bytes es)) (log_bytes es ++ e)) ≡ parsed es
log_written es e h = ap events_in (take-append_seam (log_bytes es) e) ∙ log_back es h
