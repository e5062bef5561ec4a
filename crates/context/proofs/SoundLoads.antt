-- A record stays sound at a load.
use Rattle.std.proofs.Common.{◌≡◌, ℕ, ◌-◌, ◌≤◌, Bool, true, false, cond, leb, length, Ok, Err, Result, sym, refl, ap, subst, arith}
use Rattle.std.proofs.lemmas.Bool.{leb-true}
use Rattle.address.specs.Addresses.{positions_below}
use Rattle.frame.specs.Markers.{sof_of}
use Rattle.moves.specs.Steps.{MoveResult}
use Rattle.moves.specs.declared.state.Cursor.{Cursor}
use Rattle.moves.specs.declared.state.MoveFault.{MoveFault}
use Rattle.context.specs.declared.record.ContextRecord.{ContextRecord}
use Rattle.context.specs.declared.refusals.Refusal.{Refusal}
use Rattle.context.specs.declared.refusals.Refusal.TheVariants.{Depth, TooMany}
use Rattle.context.specs.Records.{bsp_of, with_lo, with_moves}
use Rattle.context.specs.Frames.{on_granted, if_granted}
use Rattle.context.specs.Scenes.{Scene, moved, if_moved}
use Rattle.context.specs.Returns.{refill_after, load_first, load_run, with_lowest, loaded_from, load_answer, load_after}
use Rattle.context.specs.Sound.{Sound, Closed}
use Rattle.context.proofs.SpillRuns.{Bits}
use Rattle.context.proofs.SoundSpills.{granted_both}
use Rattle.context.proofs.SoundReturns.{refill_cases}

-- a load that is granted: its words lie in the region, and hold at most 96 registers
pub record Loads (r : ContextRecord) (words first : ℕ) : Type 0 where
  pub within : words ≤ bsp_of r - r.start
  pub few : r.base - first ≤ 96
  pub lowest : first ≡ positions_below r.start (bsp_of r - words)

loads_by : (t u : Bool) (x first : ℕ) → ◌≡◌ {A = Result ℕ Refusal} (cond t (cond u (Ok x) (Err TooMany)) (Err Depth)) (Ok first) → (t ≡ true) × (u ≡ true) × (first ≡ x)
loads_by true true x first e = (refl, refl, cc)
loads_by true false x first e = let z : ◌≡◌ {A = ℕ} 0 1 = cc in absurd (omega (arith, z))
loads_by false u x first e = let z : ◌≡◌ {A = ℕ} 0 1 = cc in absurd (omega (arith, z))

pub load_granted : (r : ContextRecord) (words first : ℕ) → load_first r words ≡ Ok first → Loads r words first
load_granted r words first e =
    let x = positions_below r.start (bsp_of r - words) in
    let p = loads_by (leb words (bsp_of r - r.start)) (leb (r.base - x) 96) x first e in
    let few : r.base - x ≤ 96 = leb-true (r.base - x) 96 p.1 in
    record { within = leb-true words (bsp_of r - r.start) p.0; few = omega (arith, few, p.2); lowest = p.2 }

-- what a load leaves: the loaded registers are the lowest in the file, and dirty
loaded_sound : (n words first : ℕ) (r : ContextRecord) (c : Cursor) → 96 ≤ n → Closed r → Loads r words first → Sound n r → c.bspstore ≡ bsp_of r - words → Bits c
    → Sound n (with_lo (with_moves r c) first)
loaded_sound n words first r c wide closed l h e bits =
    let none : sof_of r.marker ≡ 0 = ap sof_of closed.empty in
    let low : r.start ≤ bsp_of r = omega arith in
    record {
      aligned = h.aligned;
      sized = h.sized;
      begins = omega (arith, e, l.within);
      dirty = omega (arith, e);
      clean = subst (λ x. first ≤ positions_below r.start x) (sym e) (omega (arith, l.lowest));
      room = omega (arith, l.few, none);
      bits = bits;
    }

same_stack : {C : Type 0} (P : ContextRecord → Type 0) (a : MoveResult) (x : Scene C) (first : ℕ)
    → P (if_moved a (with_lo x.stack first) x.stack) → P (if_moved a (with_lowest x first) x).stack
same_stack P (Ok v) x first h = h
same_stack P (Err f) x first h = h

module _ {C : Type 0} (content : ℕ → C) (s : Scene C) (words : ℕ) where
  -- what the record may be after a load that is granted its first position
  loaded-cases : (P : ContextRecord → Type 0) (first : ℕ) → ((c : Cursor) → c.bspstore ≡ bsp_of s.stack - words → Bits c → P (with_lo (with_moves s.stack c) first)) → P s.stack
      → P (loaded_from content s words first).stack
  loaded-cases P first through stopped =
      same_stack P (load_run content s words first) (refill_after content s first s.stack.base (bsp_of s.stack - words)) first
      (refill_cases content s first s.stack.base (bsp_of s.stack - words) (λ a t. P (if_moved a (with_lo t first) t)) through (λ f. stopped))

  pub load_sound : 96 ≤ length s.file → Closed s.stack → Sound (length s.file) s.stack → Sound (length s.file) (load_after content s words).stack
  load_sound wide closed h =
      granted_both (λ (x : Scene C). Sound (length s.file) x.stack) (load_first s.stack words) _ s
      (λ first e. loaded-cases (λ r. Sound (length s.file) r) first
      (λ c at bits. loaded_sound (length s.file) words first s.stack c wide closed (load_granted s.stack words first e) h at bits) h)
      h

  pub load_status : (load_after content s words).stack.status ≡ s.stack.status
  load_status =
      granted_both (λ (x : Scene C). x.stack.status ≡ s.stack.status) (load_first s.stack words) _ s
      (λ first e. loaded-cases (λ r. r.status ≡ s.stack.status) first (λ c at bits. refl) refl)
      refl

  -- a load leaves the frame and the markers
  pub load_closed : Closed s.stack → Closed (load_after content s words).stack
  load_closed h =
      granted_both (λ (x : Scene C). Closed x.stack) (load_first s.stack words) _ s
      (λ first e. loaded-cases Closed first (λ c at bits. record { empty = h.empty; below = h.below }) h)
      h

  run-stopped : (first : ℕ) (f : MoveFault) → load_run content s words first ≡ Err f → (loaded_from content s words first).stack ≡ s.stack
  run-stopped first f q =
      same_stack (λ r. r ≡ s.stack) (load_run content s words first) (refill_after content s first s.stack.base (bsp_of s.stack - words)) first
      (refill_cases content s first s.stack.base (bsp_of s.stack - words) (λ a t. (f : MoveFault) → a ≡ Err f → if_moved a (with_lo t first) t ≡ s.stack)
      (λ c at bits f q. let z : ◌≡◌ {A = ℕ} 0 1 = cc in absurd (omega (arith, z)))
      (λ g f q. refl) f q)

  by_run : (e : Refusal) (a : MoveResult) (X : Type 0) → ◌≡◌ {A = Result (Unit {0}) Refusal} (moved a (Ok tt)) (Err e) → ((f : MoveFault) → a ≡ Err f → X) → X
  by_run e (Ok v) X q h = let z : ◌≡◌ {A = ℕ} 0 1 = cc in absurd (omega (arith, z))
  by_run e (Err f) X q h = h f refl

  by_first : (e : Refusal) (r : Result ℕ Refusal) → ◌≡◌ {A = Result (Unit {0}) Refusal} (on_granted r (λ first. moved (load_run content s words first) (Ok tt))) (Err e)
      → (if_granted r (loaded_from content s words) s).stack ≡ s.stack
  by_first e (Ok first) q = by_run e (load_run content s words first) ((loaded_from content s words first).stack ≡ s.stack) q (run-stopped first)
  by_first e (Err g) q = refl

  -- a load that is refused leaves the record
  pub load_stopped : (e : Refusal) → load_answer content s words ≡ Err e → (load_after content s words).stack ≡ s.stack
  load_stopped e k = by_first e (load_first s.stack words) k
