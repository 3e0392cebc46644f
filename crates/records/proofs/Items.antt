-- What stands at a place of a stream: a command or an event lies behind the place and within the stream; what is written there reads back.
use Rattle.model.specs.RecordsOf.{whole_record}
use Rattle.model.specs.declared.Body.{Body}
use Rattle.std.specs.Prelude.{Option, Some, None, Result, Ok, Err}
use Rattle.words.proofs.General.{ℕ, ◌+◌, ◌-◌, ◌≤◌, ◌<◌, arith, ◌≡◌, refl, sym, ◌∙◌, List, ◌++◌, length, get_or, take, drop, length-append, ltb, eqb, lt-ltb, le-ltb, by_flag}
use Rattle.model.specs.RecordsOf as records
use Rattle.model.proofs.Terms.{length_of, no_kind, event_bytes, command_bytes, read_at, command_at, event_at, command_of, event_of}
use Rattle.model.specs.declared.Event.{Event}
use Rattle.model.specs.declared.Command.{Command}
use Rattle.model.specs.declared.Stop.{Stop}
use Rattle.records.specs.declared.Item.{Item}
use Rattle.records.specs.declared.Item.TheVariants as item
use Rattle.records.specs.Fitting.{Fitting, CommandFits}
use Rattle.records.specs.Items.{item_whole, item_stopped, item_by, item_at}
use Rattle.records.proofs.Reading.{was_whole}
use Rattle.records.proofs.RoundTrip.{event-next, event-back, event-no-command, command-next, command-back}

-- ---- by the tests that the code makes

module _ (s : List ℕ) (at : ℕ) where
  pub item_end : length s ≤ at → item.End ≡ item_at s at
  unfolding item_at
  item_end h = rw (le-ltb at (length s) h)

  pub item_stopped_lem : at < length s → {x : Result Body Stop} {r : Stop} → x ≡ read_at s at → x ≡ Err r → {i : Item} → i ≡ item_stopped (get_or s at 0) (length s - (at + 1)) → i ≡ item_at s at
  unfolding item_at
  item_stopped_lem h p f j = rw (lt-ltb at (length s) h, sym p ∙ f) j

  -- of the part that holds the body
  pub item_whole_lem : at < length s → {x : Result Body Stop} {b : Body} → x ≡ read_at s at → x ≡ Ok b → {c : Option Command} {e : Option Event}
      → c ≡ command_of b.kind (take (b.next - b.start) (drop b.start s)) → e ≡ event_of b.kind (take (b.next - b.start) (drop b.start s))
      → {i : Item} → i ≡ item_whole b.kind b.next c e → i ≡ item_at s at
  unfolding item_at records.command_at records.event_at
  item_whole_lem h {b = b} p f u v j =
      let q : read_at s at ≡ Ok b = sym p ∙ f in
      let w = was_whole s at b.kind b.start b.len b.next q in
      let g : b.next - b.start ≡ b.len = omega arith in
      j ∙ rw (lt-ltb at (length s) h, q, u, v, g) (rw q)

-- ---- past a record

-- from a place, to one within so many bytes
abbrev pub Past : ℕ → ℕ → Item → Type 0
Past size at (item.Command c next) = (at < next) × (next ≤ size)
Past size at (item.Event e next) = (at < next) × (next ≤ size)
Past size at item.End = Unit
Past size at (item.Cut k wants left) = Unit
Past size at (item.Unknown k) = Unit
Past size at (item.Strange k) = Unit

pub item_past : (s : List ℕ) (at : ℕ) → Past (length s) at (item_at s at)
unfolding item_at
item_past s at = by_flag (Past (length s) at) (ltb at (length s)) _ _ (λ z. by_record (read_at s at) refl) (λ z. tt)
  where
    whole : (k next : ℕ) → at < next → next ≤ length s → (c : Option Command) (e : Option Event) → Past (length s) at (item_whole k next c e)
    whole k next h l (Some c) e = (h, l)
    whole k next h l None (Some e) = (h, l)
    whole k next h l None None = tt

    by_record : (r : Result Body Stop) → read_at s at ≡ r → Past (length s) at (item_by s at r)
    by_record (Ok b) q = let w = was_whole s at b.kind b.start b.len b.next q in whole b.kind b.next (omega arith) (omega arith) (command_at s at) (event_at s at)
    by_record (Err r) q = by_flag (Past (length s) at) (eqb (length_of (get_or s at 0)) no_kind) _ _ (λ z. tt) (λ z. tt)

-- ---- what is written reads back: p before it, q after it

module _ (p q : List ℕ) where
  pub item_event : (e : Event) → Fitting e → item_at (p ++ (event_bytes e ++ q)) (length p) ≡ item.Event e (length (p ++ event_bytes e))
  unfolding item_at records.event_bytes
  item_event e h =
      let i : length p < length (p ++ (event_bytes e ++ q)) = simp length-append (omega arith) in
      rw (lt-ltb (length p) _ i, event-next p q e, event-no-command p q e, event-back p q e h)

  pub item_command : (c : Command) → CommandFits c → item_at (p ++ (command_bytes c ++ q)) (length p) ≡ item.Command c (length (p ++ command_bytes c))
  unfolding item_at records.command_bytes
  item_command c h =
      let i : length p < length (p ++ (command_bytes c ++ q)) = simp length-append (omega arith) in
      rw (lt-ltb (length p) _ i, command-next p q c, command-back p q c h)
