-- What an exported call writes reads back: the records in the bytes written are the events of the definition, in order. Of calls on slices
-- of 32-bit words.
use Rattle.words.proofs.General.{ℕ, ◌≤◌, ◌≡◌, ◌∙◌, true, List, ◌++◌, length, take, drop, le-leb}
use Rattle.model.proofs.Terms.{in_range, Tables, Outcome, events_of, Lent, sound, call, access_call, send_call, fill_call, tick_call, log_bytes, events_in, parsed}
use Rattle.model.specs.declared.Settings.{Settings}
use Rattle.model.specs.declared.Access.{Access}
use Rattle.encoding.proofs.DecodeIsSound.{Small}
use Rattle.records.specs.Fitting.{AllFitting, stamped}
use Rattle.records.proofs.RoundTrip.{log_written}
use Rattle.records.proofs.Fits.{access_fits, send_fits, fill_fits, tick_fits}
use Rattle.records.proofs.OfCalls.{call_fits}
use Rattle.exported.specs.Exported.{Called}

-- with the room

module _ (S : Settings) (L : Lent) (small : Small L) {e : List ℕ} {r : ℕ} {f : List ℕ} {M : Lent} (room : 64 ≤ length e) where
  reads_back : (step : Tables → Outcome Tables) → ((t : Tables) → in_range S ≡ true → sound S t ≡ true → stamped t ≡ true → AllFitting (events_of (step t)))
      → Called (call S step L) L e r f M → events_in (take r f) ≡ parsed (events_of (call S step L))
  reads_back step fits c =
      let es = events_of (call S step L) in
      let b = le-leb 64 (length e) room in
      let n : r ≡ length (log_bytes es) = c.written ∙ (rw b) in
      let g : f ≡ log_bytes es ++ drop (length (log_bytes es)) e = c.events ∙ (rw b) in
      rw (n, g) (log_written es (drop (length (log_bytes es)) e) (call_fits S step L small fits))

  pub access_reads_back : (x : Access) → Called (access_call S x L) L e r f M → events_in (take r f) ≡ parsed (events_of (access_call S x L))
  access_reads_back x = reads_back _ (λ t range ok few. access_fits S x t range ok)

  pub send_reads_back : Called (send_call S L) L e r f M → events_in (take r f) ≡ parsed (events_of (send_call S L))
  send_reads_back = reads_back _ (λ t range ok few. send_fits S t ok)

  pub fill_reads_back : (a : ℕ) → Called (fill_call S a L) L e r f M → events_in (take r f) ≡ parsed (events_of (fill_call S a L))
  fill_reads_back a = reads_back _ (λ t range ok few. fill_fits S a t ok few)

  pub tick_reads_back : (c : ℕ) → Called (tick_call S c L) L e r f M → events_in (take r f) ≡ parsed (events_of (tick_call S c L))
  tick_reads_back c = reads_back _ (λ t range ok few. tick_fits c t)
