-- Events and commands as bytes: what the code stores is what the definitions say, and how long it is.
use Rattle.std.specs.Prelude.{Option, Some, None}
use Rattle.words.proofs.General.{ℕ, ◌%◌, ◌+◌, ◌≤◌, ◌<◌, mod-eq_of_lt, arith, ◌≡◌, refl, List, [], ◌∷◌, ◌++◌, length, lit≤}
use Rattle.records.specs.Stores.{Laid}
use Rattle.records.specs.Parts.{given}
use Rattle.model.proofs.Terms.{length_of, bytes_of, record_kind_of, body_bytes, event_bytes, settings_kind, rule_bytes, given_bytes, command_in, command_kind}
use Rattle.model.proofs.Terms.{command_body, command_bytes}
use Rattle.model.specs.RecordsOf as records
use Rattle.model.specs.declared.Given.{Given}
use Rattle.model.specs.declared.Event.{Event}
use Rattle.model.specs.declared.Event.TheVariants as ev
use Rattle.model.specs.declared.Command.{Command}
use Rattle.model.specs.declared.Command.TheVariants as cmd

-- a byte is the one byte of its number
pub byte_as : {x y : ℕ} → x ≡ y → x < 256 → x ∷ [] ≡ bytes_of 1 y
unfolding bytes_of
byte_as e h = rw (← e, mod-eq_of_lt h)

-- the kind, the numbers and the rule as they are stored
pub settings-bytes : (g : Given) {k : ℕ} → k ≡ settings_kind g.rule
    → bytes_of 1 k ++ (given_bytes (given g.sets g.ways g.dirty g.misses g.readers g.queue None) ++ rule_bytes g.rule) ≡ command_bytes (cmd.Settings g)
unfolding records.command_bytes bytes_of
settings-bytes g e = rw e (by_rule g.rule)
  where
    by_rule : (u : Option ℕ) → settings_kind u % 256 ∷ (given_bytes (given g.sets g.ways g.dirty g.misses g.readers g.queue None) ++ rule_bytes u) ≡ settings_kind u ∷ (given_bytes (given g.sets g.ways g.dirty g.misses g.readers g.queue None) ++ rule_bytes u)
    by_rule None = refl
    by_rule (Some r) = refl

-- ---- lengths

-- an event's body is as long as the table says, no body is as long as the table's mark, and its kind is no command's
pub record EventBody (e : Event) : Type 0 where
  pub sized : length (body_bytes e) ≡ length_of (record_kind_of e)
  pub short : length (body_bytes e) ≤ 24
  pub other : (b : List ℕ) → command_in (record_kind_of e) b ≡ None

pub event_body_lem : (e : Event) → EventBody e
unfolding bytes_of records.length_of
event_body_lem (ev.Answered a line) = record { sized = refl; short = lit≤ tt; other = λ b. refl }
event_body_lem (ev.Refused n) = record { sized = refl; short = lit≤ tt; other = λ b. refl }
event_body_lem (ev.ReadQueued a) = record { sized = refl; short = lit≤ tt; other = λ b. refl }
event_body_lem (ev.WriteBackQueued b m0 m1 m2 m3) = record { sized = refl; short = lit≤ tt; other = λ b. refl }
event_body_lem (ev.Released t) = record { sized = refl; short = lit≤ tt; other = λ b. refl }
event_body_lem (ev.ReadSent a) = record { sized = refl; short = lit≤ tt; other = λ b. refl }
event_body_lem (ev.WriteBackSent b m0 m1 m2 m3) = record { sized = refl; short = lit≤ tt; other = λ b. refl }
event_body_lem (ev.Filled a) = record { sized = refl; short = lit≤ tt; other = λ b. refl }
event_body_lem ev.Ticked = record { sized = refl; short = lit≤ tt; other = λ b. refl }

pub event_short : (e : Event) → length (event_bytes e) ≤ 25
unfolding records.event_bytes
event_short e = omega (arith, (event_body_lem e).short)

rule_sized : (u : Option ℕ) → (7 + length (rule_bytes u) ≡ length_of (settings_kind u)) × (length (rule_bytes u) ≤ 1)
unfolding bytes_of records.length_of
rule_sized None = (refl, lit≤ tt)
rule_sized (Some r) = (refl, lit≤ tt)

-- and a command's
pub command_body_lem : (c : Command) → (length (command_body c) ≡ length_of (command_kind c)) × (length (command_body c) ≤ 24)
unfolding bytes_of records.length_of
command_body_lem (cmd.Settings g) = let r = rule_sized g.rule in (omega arith, omega arith)
command_body_lem (cmd.Read a k) = (refl, lit≤ tt)
command_body_lem (cmd.Write a m) = (refl, lit≤ tt)
command_body_lem cmd.Send = (refl, lit≤ tt)
command_body_lem (cmd.Fill a) = (refl, lit≤ tt)
command_body_lem (cmd.Tick c) = (refl, lit≤ tt)

-- room for any event, and where it ends at the latest
pub any_room : (e : Event) (at : ℕ) {n : ℕ} → at + 25 ≤ n → at + length (event_bytes e) ≤ n
any_room e at h = omega (arith, event_short e)

pub any_end : (e : Event) {l m : List ℕ} {at r : ℕ} → Laid l at (length (event_bytes e)) (event_bytes e) r m → r ≤ at + 25
any_end e u = omega (arith, event_short e, u.next)

-- ---- an event, a command and a rule that are known by their case

module _ {A : Type 0} (bytes : A → List ℕ) {x y : A} (at : ℕ) where
  pub case-room : {n : ℕ} → at + length (bytes x) ≤ n → x ≡ y → at + length (bytes y) ≤ n
  case-room h q = rw q at h

  pub case-laid : {l m : List ℕ} {r : ℕ} → Laid l at (length (bytes y)) (bytes y) r m → x ≡ y → Laid l at (length (bytes x)) (bytes x) r m
  case-laid u q = rw q u
