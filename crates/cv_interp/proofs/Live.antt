-- Accesses of cells, by the life of the object.
use Rattle.std.proofs.Common.{◌≡◌, refl, ap, subst, ◌∙◌, ℕ, true, false, Option, Some, None, Ok, Err}
use Rattle.std.specs.Prelude.{slice_get, IsSome, pos, ◌-ℤ◌, ◌==◌}
use Rattle.cv_core.specs.declared.faults.ErrKind.{ErrKind}
use Rattle.cv_core.specs.declared.faults.ErrKind.TheVariants as err
use Rattle.cv_meaning.specs.declared.memory.Object.{Object}
use Rattle.cv_meaning.specs.declared.memory.Body.{Body}
use Rattle.cv_meaning.specs.declared.memory.Body.TheVariants.{Buffer, Cell}
use Rattle.cv_meaning.specs.declared.memory.Permit.{Permit}
use Rattle.cv_meaning.specs.declared.memory.Ptr.{Ptr}
use Rattle.cv_meaning.specs.declared.memory.Ptr.TheVariants.{At}
use Rattle.cv_meaning.specs.declared.memory.Value.{Value}
use Rattle.cv_meaning.specs.declared.memory.Value.TheVariants as value
use Rattle.cv_meaning.specs.Checked.{Checked, ◌>>=◌, unless}
use Rattle.cv_meaning.specs.Contract.{content, content_in, live_body}
use Rattle.cv_meaning.specs.Memory.{Memory, Place, cell_at, cell_held, cell_of, diff, get, is_live, live, may_change, place, place_at, put, with_body}
use Rattle.cv_interp.specs.Cells.{IsCellIfLive}

abbrev pub or_zero : Option Value → Value
or_zero None = value.Int (pos 0)
or_zero (Some v) = v

abbrev pub body_of : Option Object → Body
body_of None = Cell (value.Int (pos 0))
body_of (Some x) = x.body

abbrev pub spot : ℕ → ℕ → Option Object → Place
spot o at x = record { object = o; offset = at; body = body_of x }

alive : (o at : ℕ) (x : Option Object) → is_live x ≡ true → place_at o at x ≡ Ok (spot o at x)
alive o at None h = absurd (cc)
alive o at (Some x) h = rw h refl

pub place_live : (m : Memory) (o at : ℕ) → live m o ≡ true → place m (At o at) ≡ Ok (spot o at (slice_get m o))
place_live m o at h = alive o at (slice_get m o) h

held : (x : Option Object) → cell_of (body_of x) ≡ or_zero (cell_held x)
held None = refl
held (Some x) = inside x.body
  where
    inside : (b : Body) → cell_of b ≡ or_zero (cell_held (Some (record x { body = b })))
    inside (Buffer bytes) = refl
    inside (Cell v) = refl

pub get_live : (m : Memory) (o at : ℕ) → live m o ≡ true → get m (At o at) ≡ Ok (or_zero (cell_at m o))
get_live m o at h = ap (λ (p : Checked Place). p >>= λ w. Ok (cell_of w.body)) (place_live m o at h) ∙ ap Ok (held (slice_get m o))

pub get_fails : (m : Memory) (w : Ptr) (e : ErrKind) → place m w ≡ Err e → get m w ≡ Err e
get_fails m w e h = ap (λ (p : Checked Place). p >>= λ x. Ok (cell_of x.body)) h

pub put_live : (m : Memory) (o at : ℕ) (v : Value) (permit : Permit) → live m o ≡ true →
    put m (At o at) v permit ≡ unless (may_change permit o) err.Modifies (Ok (with_body o (Cell v) m))
put_live m o at v permit h =
    ap (λ (p : Checked Place). p >>= λ w. unless (may_change permit w.object) err.Modifies (Ok (with_body w.object (Cell v) m))) (place_live m o at h)

pub put_fails : (m : Memory) (w : Ptr) (v : Value) (permit : Permit) (e : ErrKind) → place m w ≡ Err e → put m w v permit ≡ Err e
put_fails m w v permit e h =
    ap (λ (p : Checked Place). p >>= λ x. unless (may_change permit x.object) err.Modifies (Ok (with_body x.object (Cell v) m))) h

pub cell_there : (m : Memory) (w : Ptr) (o at : ℕ) → IsCellIfLive m w → w ≡ At o at → live m o ≡ true → IsSome (cell_at m o)
cell_there m w o at h is alive = let f : IsCellIfLive m (At o at) = subst (IsCellIfLive m) is h in f alive

pub diff_live : (m : Memory) (o i u j : ℕ) → live m o ≡ true → live m u ≡ true →
    diff m (At o i) (At u j) ≡ unless (o == u) err.Bounds (Ok (pos i -ℤ pos j))
diff_live m o i u j h k =
    ap (λ (p : Checked Place). p >>= λ a. place m (At u j) >>= λ b. unless (a.object == b.object) err.Bounds (Ok (pos a.offset -ℤ pos b.offset))) (place_live m o i h)
    ∙ ap (λ (p : Checked Place). p >>= λ b. unless (o == b.object) err.Bounds (Ok (pos i -ℤ pos b.offset))) (place_live m u j k)

pub diff_fails_first : (m : Memory) (p q : Ptr) (e : ErrKind) → place m p ≡ Err e → diff m p q ≡ Err e
diff_fails_first m p q e h =
    ap (λ (r : Checked Place). r >>= λ a. place m q >>= λ b. unless (a.object == b.object) err.Bounds (Ok (pos a.offset -ℤ pos b.offset))) h

pub diff_fails_second : (m : Memory) (o i : ℕ) (q : Ptr) (e : ErrKind) → live m o ≡ true → place m q ≡ Err e → diff m (At o i) q ≡ Err e
diff_fails_second m o i q e h k =
    ap (λ (r : Checked Place). r >>= λ a. place m q >>= λ b. unless (a.object == b.object) err.Bounds (Ok (pos a.offset -ℤ pos b.offset))) (place_live m o i h)
    ∙ ap (λ (r : Checked Place). r >>= λ b. unless (o == b.object) err.Bounds (Ok (pos i -ℤ pos b.offset))) k

content_by : (x : Option Object) → is_live x ≡ true → content_in (live_body x) ≡ cell_held x
content_by None h = refl
content_by (Some x) h = rw h (inside x.body)
  where
    inside : (b : Body) → content_in (Some b) ≡ cell_held (Some (record x { body = b }))
    inside (Buffer bytes) = refl
    inside (Cell v) = refl

no_content : (x : Option Object) → is_live x ≡ false → content_in (live_body x) ≡ None
no_content None h = refl
no_content (Some x) h = rw h refl

pub content_live : (m : Memory) (o at : ℕ) → live m o ≡ true → content m (value.Ptr (At o at)) ≡ cell_at m o
content_live m o at h = content_by (slice_get m o) h

pub content_dead : (m : Memory) (o at : ℕ) → live m o ≡ false → content m (value.Ptr (At o at)) ≡ None
content_dead m o at h = no_content (slice_get m o) h
