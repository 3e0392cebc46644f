-- `compare::reading::Feed::read_on`: by what reading gave.
use Rattle.words.proofs.General.{◌≡◌, length, arith}
use Rattle.compare.proofs.Feeding.{still_sound, came_sound, window_told, fed-came, fed-end, fed-stuck}
use Rattle.compare.proofs.reading.Feed.read_on.Goals as goal

pub invariant_of-self : goal.invariant_of-self
invariant_of-self c =
    let e : length c.args.self.now.bytes ≡ 65536 = omega arith in
    record { sound = still_sound _ _ e c.args.self.now.sound c.carry-have.ensures.0 c.carry-have.ensures.1 c.fill.ensures _ }

pub invariant_of-self-in-Err-End : goal.invariant_of-self-in-Err-End
invariant_of-self-in-Err-End c =
    let e : length c.args.self.now.bytes ≡ 65536 = omega arith in
    record { sound = still_sound _ _ e c.args.self.now.sound c.carry-have.ensures.0 c.carry-have.ensures.1 c.fill.ensures _ }

pub invariant_of-self-in-Err-Full : goal.invariant_of-self-in-Err-Full
invariant_of-self-in-Err-Full c =
    let e : length c.args.self.now.bytes ≡ 65536 = omega arith in
    record { sound = still_sound _ _ e c.args.self.now.sound c.carry-have.ensures.0 c.carry-have.ensures.1 c.fill.ensures _ }

pub invariant_of-self-in-Failed-1 : goal.invariant_of-self-in-Failed-1
invariant_of-self-in-Failed-1 c =
    let e : length c.args.self.now.bytes ≡ 65536 = omega arith in
    record { sound = still_sound _ _ e c.args.self.now.sound c.carry-have.ensures.0 c.carry-have.ensures.1 c.fill.ensures _ }

pub invariant_of-self-in-Ok : goal.invariant_of-self-in-Ok
invariant_of-self-in-Ok c =
    let e : length c.args.self.now.bytes ≡ 65536 = omega arith in
    let s = c.args.self.now.sound in
    let w = window_told c.in-Some.ensures in
    record { sound = rw w.0 (came_sound _ _ e s c.carry-have.ensures.0 c.carry-have.ensures.1 c.fill.ensures c.in-Ok.is w.1 (omega (arith, s.within, s.placed))) }

pub returns-in_default : goal.returns-in_default
returns-in_default c =
    let e : length c.args.self.now.bytes ≡ 65536 = omega arith in
    fed-stuck _ _ e c.args.self.now.sound c.carry-have.ensures.0 c.carry-have.ensures.1 c.fill.ensures _

pub returns-in-Some : goal.returns-in-Some
returns-in-Some c =
    let e : length c.args.self.now.bytes ≡ 65536 = omega arith in
    rw (window_told c.in-Some.ensures).0 (fed-came _ _ e c.args.self.now.sound c.carry-have.ensures.0 c.carry-have.ensures.1 c.fill.ensures c.in-Ok.is)

pub returns-in-Err-End : goal.returns-in-Err-End
returns-in-Err-End c =
    let e : length c.args.self.now.bytes ≡ 65536 = omega arith in
    rw c.ends-self.ensures (fed-end _ _ e c.args.self.now.sound c.carry-have.ensures.0 c.carry-have.ensures.1 c.fill.ensures)

pub returns-in-Err-Full : goal.returns-in-Err-Full
returns-in-Err-Full c =
    let e : length c.args.self.now.bytes ≡ 65536 = omega arith in
    fed-stuck _ _ e c.args.self.now.sound c.carry-have.ensures.0 c.carry-have.ensures.1 c.fill.ensures _

pub returns-in-Err-Failed : goal.returns-in-Err-Failed
returns-in-Err-Failed c =
    let e : length c.args.self.now.bytes ≡ 65536 = omega arith in
    fed-stuck _ _ e c.args.self.now.sound c.carry-have.ensures.0 c.carry-have.ensures.1 c.fill.ensures _
