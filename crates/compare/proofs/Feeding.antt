-- A window that is read on, and one that moves.
use Rattle.words.proofs.General.{ℕ, ◌+◌, ◌-◌, ◌*◌, ◌^◌, ◌≤◌, ◌<◌, arith, ◌≡◌, refl, ap, ◌∙◌, inl, inr, Bool, true, false, ◌&&◌, List, length, take, drop}
use Rattle.words.proofs.General.{⊎_elim, lt-ltb, le-ltb, lt_or_ge, length-append, length-take, length-drop, length-take-le, take_all, take-append-le, leb, le-leb}
use Rattle.std.specs.Prelude.{⊤, Some, None, Result, Ok, Err, OnOk}
use Rattle.input.specs.declared.NoMore.{NoMore}
use Rattle.input.specs.Buffers.{Reaches, Read, moved_down, carried, carried_count}
use Rattle.compare.specs.declared.page.Stopped.{Stopped}
use Rattle.compare.specs.declared.reading.Window.{Window}
use Rattle.compare.specs.Windows.{window, waiting_in, moved_by, came_to, WindowSound, WindowGrown, Fed, left_of}

-- ---- the bytes that wait

module _ (l : List ℕ) (w : Window) where
  pub waiting_length : length (waiting_in l w) ≤ w.have - w.at
  waiting_length = let k = length-take (w.have - w.at) (drop w.at l) in omega arith

  pub moved-left : {m : ℕ} → m ≤ length (waiting_in l w) → left_of (moved_by w m) + 2 * m ≡ left_of w
  moved-left h = let k = waiting_length in omega arith

-- ---- read on

module _ (l : List ℕ) (w : Window) (L : length l ≡ 65536) (s : WindowSound 65536 w) {have : ℕ} {l₀ : List ℕ} (p : have ≡ carried_count l w.at w.have) (q : l₀ ≡ carried l w.at w.have) where
  fits : (leb w.at w.have && leb w.have (length l)) ≡ true
  fits = rw (le-leb w.at w.have s.within, le-leb w.have (length l) (omega (arith, s.buffered)))

  pub count-waits : have ≡ w.have - w.at
  unfolding carried_count
  count-waits = p ∙ rw fits

  down : l₀ ≡ moved_down l w.at (w.have - w.at)
  unfolding carried
  down = q ∙ rw fits

  front_length : length (take (w.have - w.at) (drop w.at l)) ≡ w.have - w.at
  front_length = let k = length-drop w.at l in length-take-le (w.have - w.at) (drop w.at l) (omega (arith, s.buffered))

  pub same_size : length l₀ ≡ length l
  same_size = omega (arith, ap length down, front_length, length-append (take (w.have - w.at) (drop w.at l)) (drop (w.have - w.at) l), length-drop (w.have - w.at) l)

  module _ {f : Result ℕ NoMore} {l₁ : List ℕ} (k : Read l₀ have f l₁) where
    keeps : take (w.have - w.at) l₁ ≡ waiting_in l w
    keeps =
        let e : take (w.have - w.at) l₁ ≡ take (w.have - w.at) l₀ = rw count-waits at k.before in
        e ∙ ap (take (w.have - w.at)) down ∙ take-append-le (w.have - w.at) (take (w.have - w.at) (drop w.at l)) (drop (w.have - w.at) l) (omega (arith, front_length))
        ∙ take_all (w.have - w.at) (take (w.have - w.at) (drop w.at l)) (omega (arith, front_length))

    pub still_sound : (e : Bool) → WindowSound 65536 (window (w.base + w.at) 0 have e)
    still_sound e = let c = count-waits in record { within = omega arith; buffered = omega (arith, s.buffered); placed = omega (arith, s.within, s.placed) }

    pub came_sound : {n : ℕ} → f ≡ Ok n → n ≤ 2 ^ 64 - 1 - (w.base + w.at) → w.base + w.at < 2 ^ 64 → WindowSound 65536 (window (w.base + w.at) 0 n false)
    came_sound {n} g h i =
        let reach : Reaches have (length l₀) (Ok n) = rw g at k.reaches in
        let z = same_size in
        record { within = omega arith; buffered = omega arith; placed = omega arith }

    feeds : (h : ℕ) (e : Bool) (r : Result ⊤ Stopped) → OnOk r (WindowGrown (w.have - w.at) (window (w.base + w.at) 0 h e)) → Fed l w (window (w.base + w.at) 0 h e) r l₁
    feeds h e r g = record { kept = keeps; front = refl; place = refl; more = g }

    pub fed-end : Fed l w (window (w.base + w.at) 0 have true) (Ok tt) l₁
    fed-end = let c = count-waits in feeds have true (Ok tt) (inr (c, refl))

    pub fed-stuck : (e : Stopped) → Fed l w (window (w.base + w.at) 0 have false) (Err e) l₁
    fed-stuck e = feeds have false (Err e) tt

    pub fed-came : {n : ℕ} → f ≡ Ok n → Fed l w (window (w.base + w.at) 0 n false) (Ok tt) l₁
    fed-came {n} g =
        let reach : Reaches have (length l₀) (Ok n) = rw g at k.reaches in
        let c = count-waits in
        feeds n false (Ok tt) (inl (omega arith, refl))

-- a window that a place can say the end of
pub window_told : {base n : ℕ} {w : Window} → Some w ≡ came_to base n → (w ≡ window base 0 n false) × (n ≤ 2 ^ 64 - 1 - base)
unfolding came_to
window_told {base} {n} {w} e =
    ⊎_elim
    (λ z. let h : Some w ≡ None = rw (lt-ltb (2 ^ 64 - 1 - base) n z) at e in cc)
    (λ z.
    let h : Some w ≡ Some (window base 0 n false) = rw (le-ltb (2 ^ 64 - 1 - base) n z) at e in
    let i : w ≡ window base 0 n false = cc in
    (i, z))
    (lt_or_ge (2 ^ 64 - 1 - base) n)
