-- Fresh tables are sound, and every step leaves sound tables sound.
use Rattle.words.proofs.General.{ℕ, ◌≤◌, ◌≡◌, true}
use Rattle.model.proofs.Terms.{in_range, mask_of, Tables, start, Outcome, refused, done, after, all_ones, sound, Rules, rule_of, access_under, access, send, fill, tick, Call}
use Rattle.model.proofs.Terms.{offer, sending, filling, ticking, step_under, SmallCall, step_of}
pub use Rattle.model.specs.Runner.{command_mask}
use Rattle.model.specs.declared.Settings.{Settings}
use Rattle.model.specs.declared.Access.{Access}
use Rattle.model.specs.declared.Access.TheVariants.{Read, Write}
use Rattle.model.specs.declared.Command.{Command}
use Rattle.model.specs.declared.Command.TheVariants as cmd
use Rattle.model.proofs.SoundFacts.{LeavesSound, parts, sound_whole}
use Rattle.model.proofs.SendFillKeepSound.{send_leaves_sound, fill_leaves_sound}
use Rattle.model.proofs.ProbeFindsSpot.{tick_leaves_sound, start_is_sound}
use Rattle.model.proofs.AccessCases.{access-leaves}

after_sound : (S : Settings) (t : Tables) → sound S t ≡ true → (o : Outcome Tables) → LeavesSound S o → sound S (after t o) ≡ true
after_sound S t ok (refused n) l = ok
after_sound S t ok (done es u) l = sound_whole S u l

pub start-sound : (S : Settings) → sound S (start S) ≡ true
start-sound S = sound_whole S (start S) (start_is_sound S)

-- under any rules; a mask is a 32-bit number: `well_formed` leaves that to its type
pub access_under_keeps_sound : (R : Rules) (S : Settings) (x : Access) (t : Tables) → in_range S ≡ true → mask_of x ≤ all_ones → sound S t ≡ true
    → sound S (after t (access_under R S x t)) ≡ true
access_under_keeps_sound R S x t range small ok = after_sound S t ok (access_under R S x t) (access-leaves R S t x range (parts S t ok) small)

pub access_keeps_sound : (S : Settings) (x : Access) (t : Tables) → in_range S ≡ true → mask_of x ≤ all_ones → sound S t ≡ true
    → sound S (after t (access S x t)) ≡ true
unfolding access
access_keeps_sound S x t range small ok = access_under_keeps_sound (rule_of S) S x t range small ok

pub send_keeps_sound : (S : Settings) (t : Tables) → sound S t ≡ true → sound S (after t (send t)) ≡ true
send_keeps_sound S t ok = after_sound S t ok (send t) (send_leaves_sound S t (parts S t ok))

pub fill_keeps_sound : (S : Settings) (a : ℕ) (t : Tables) → sound S t ≡ true → sound S (after t (fill a t)) ≡ true
fill_keeps_sound S a t ok = after_sound S t ok (fill a t) (fill_leaves_sound S t (parts S t ok) a)

pub tick_keeps_sound : (S : Settings) (c : ℕ) (t : Tables) → sound S t ≡ true → sound S (after t (tick c t)) ≡ true
tick_keeps_sound S c t ok = after_sound S t ok (tick c t) (tick_leaves_sound S t (parts S t ok) c)

pub call_keeps_sound : (R : Rules) (S : Settings) (k : Call) (t : Tables) → in_range S ≡ true → SmallCall k → sound S t ≡ true
    → sound S (after t (step_under R S k t)) ≡ true
call_keeps_sound R S (offer x) t range small ok = access_under_keeps_sound R S x t range small ok
call_keeps_sound R S sending t range small ok = send_keeps_sound S t ok
call_keeps_sound R S (filling a) t range small ok = fill_keeps_sound S a t ok
call_keeps_sound R S (ticking c) t range small ok = tick_keeps_sound S c t ok

pub step_keeps_sound : (S : Settings) (c : Command) (t : Tables) → in_range S ≡ true → command_mask c ≤ all_ones → sound S t ≡ true
    → sound S (after t (step_of S c t)) ≡ true
step_keeps_sound S (cmd.Settings g) t range small ok = ok
step_keeps_sound S (cmd.Read a k) t range small ok = access_keeps_sound S (Read a 0 k) t range small ok
step_keeps_sound S (cmd.Write a m) t range small ok = access_keeps_sound S (Write a m 0) t range small ok
step_keeps_sound S cmd.Send t range small ok = send_keeps_sound S t ok
step_keeps_sound S (cmd.Fill a) t range small ok = fill_keeps_sound S a t ok
step_keeps_sound S (cmd.Tick c) t range small ok = tick_keeps_sound S c t ok
