-- What asking tells: granted exactly where every needed word is open, otherwise the lowest shut one.
use Rattle.std.proofs.Common.{◌≡◌, ℕ, zero, suc, ◌+◌, ◌-◌, ◌/◌, ◌<◌, ◌≤◌, true, false, cond, ◌&&◌, ◌||◌, ltb, ◌⊎◌, length, get_or, Ok, Err, sym, refl, ap, ◌∙◌, subst, inl, inr, arith}
use Rattle.std.proofs.lemmas.Bool.{lt-ltb, le-ltb, and_parts, and_cases, or_cases, or_parts, both_ways, cases_eq, cases_lt, cases_Bool, cond-true, cond-false, cond_both}
use Rattle.address.specs.Addresses.{collection_of, positions_below}
use Rattle.address.specs.AddressLaws.{Aligned}
use Rattle.address.proofs.Addresses.{address_monotone}
use Rattle.store.specs.Meaning.{Meaning}
use Rattle.store.specs.Rules.{is_open}
use Rattle.moves.specs.declared.state.Cursor.{Cursor}
use Rattle.moves.specs.declared.state.MoveFault.{MoveFault}
use Rattle.moves.specs.declared.state.Movement.TheVariants.{Spill, Fill, Lowering}
use Rattle.moves.specs.Steps.{MoveResult, ask_of, fault_at}
use Rattle.moves.specs.Fills.{word_of, is_near, fill_open, fill_shut, fill_answer}
use Rattle.moves.specs.Lowers.{lower_reads, lower_answer}
use Rattle.moves.specs.Asks.{spills_asked, fills_asked}
use Rattle.moves.specs.Told.{SpillNeeds, FillNeeds, LowerNeeds, Told, Lowest}

-- in a store of whole pages a word and its collection have one door
same_door : (m : Meaning) (w : ℕ) → Aligned (length m.words) → is_open m (collection_of w) ≡ is_open m w
same_door m w a =
    let n = length m.words in
    let page : collection_of w / 64 ≡ w / 64 = omega arith in
    let there : ltb (collection_of w) n ≡ ltb w n =
    elim (cases_lt w n) [
      | inl lt ↦ lt-ltb (collection_of w) n (omega arith) ∙ sym (lt-ltb w n lt)
      | inr le ↦ le-ltb (collection_of w) n (omega arith) ∙ sym (le-ltb w n le)
    ]
    in
    ap (λ t. t && cond m.moving (get_or m.flags (collection_of w / 64) false) true) there
    ∙ ap (λ k. ltb w n && cond m.moving (get_or m.flags k false) true) page

module _ (m : Meaning) (context : ℕ) where
  -- ---- spills

  abbrev pub Spills : ℕ → ℕ → ℕ → MoveResult → Type 0
  Spills start from end r = Told m Spill context (SpillNeeds start from end) r × Lowest m (SpillNeeds start from end) r

  spills-wider : (start w end : ℕ) (r : MoveResult) → is_open m w ≡ true → Spills start (w + 1) end r → Spills start w end r
  spills-wider start w end (Ok _) o h = (
    (λ x p need.
        elim (cases_eq x w) [
          | inl e ↦ ap (is_open m) e ∙ o
          | inr ne ↦ h.0 x p (omega (arith, need.0), need.1, need.2)
        ]),
    tt,
  )
  spills-wider start w end (Err f) o h =
      let told = h.0 in
      let need = told.needed in (
        record { needed = (omega (arith, need.0), need.1, need.2); shut = told.shut; cause = told.cause; movement = told.movement; context = told.context },
        (λ x p wants lt.
            elim (cases_eq x w) [
              | inl e ↦ ap (is_open m) e ∙ o
              | inr ne ↦ h.1 x p (omega (arith, wants.0), wants.1, wants.2) lt
            ]),
      )

  pub spills_told : (start n w end : ℕ) → n ≡ end - w → Spills start w end (spills_asked m context start n w)
  spills_told start zero w end e = ((λ x p need. let z : ⊥ = omega (arith, need.0, need.1) in absurd z), tt)
  spills_told start (suc n) w end e =
      let p = positions_below start w in
      let f : MoveFault = fault_at m w Spill context p in
      cond_both (is_open m w) (spills_asked m context start n (w + 1)) (ask_of m w Spill context p) (Spills start w end)
      (λ o. spills-wider start w end (spills_asked m context start n (w + 1)) o (spills_told start n (w + 1) end (omega arith)))
      (λ o. subst (Spills start w end) (sym (cond-false (is_open m w) (Ok tt) (Err f) o)) (
        record { needed = (omega arith, omega arith, refl); shut = o; cause = refl; movement = refl; context = refl },
        (λ x q wants lt. let z : ⊥ = omega (arith, wants.0, lt) in absurd z),
      ))

  -- ---- fills

  abbrev Wants : Cursor → ℕ → ℕ → Type 0
  Wants c w p = (w ≡ word_of c p) ⊎ ((is_near c p ≡ false) × (w ≡ collection_of (word_of c p)))

  open-wants : (c : Cursor) (p w : ℕ) → fill_open c m p ≡ true → Wants c w p → is_open m w ≡ true
  open-wants c p w o wants =
      let parts = and_parts (is_open m (word_of c p)) (is_near c p || is_open m (collection_of (word_of c p))) o in
      elim wants [
        | inl e ↦ ap (is_open m) e ∙ parts.0
        | inr x ↦ elim (or_cases (is_near c p) (is_open m (collection_of (word_of c p))) parts.1) [
          | inl near ↦ absurd (both_ways (is_near c p) x.0 near)
          | inr also ↦ ap (is_open m) x.1 ∙ also
        ]
      ]

  shut-wants : (c : Cursor) (p : ℕ) → fill_open c m p ≡ false → Wants c (fill_shut c m p) p × (is_open m (fill_shut c m p) ≡ false)
  shut-wants c p o =
      let w = word_of c p in
      let q = collection_of w in
      elim (cases_Bool (is_open m w)) [
        | inl opened ↦
            let s : fill_shut c m p ≡ q = cond-true (is_open m w) q w opened in
            elim (and_cases (is_open m w) (is_near c p || is_open m q) o) [
              | inl closed ↦ absurd (both_ways (is_open m w) closed opened)
              | inr closed ↦ let parts = or_parts (is_near c p) (is_open m q) closed in (inr (parts.0, s), ap (is_open m) s ∙ parts.1)
            ]
        | inr closed ↦ let s : fill_shut c m p ≡ w = cond-false (is_open m w) q w closed in (inl s, ap (is_open m) s ∙ closed)
      ]

  abbrev pub Fills : Cursor → ℕ → ℕ → MoveResult → Type 0
  Fills c low high r =
      Told m Fill context (FillNeeds c low high) r × (Aligned (length m.words) → Lowest m (FillNeeds c low high) r)

  fills-wider : (c : Cursor) (p high : ℕ) (r : MoveResult) → fill_open c m p ≡ true → Fills c (p + 1) high r → Fills c p high r
  fills-wider c p high (Ok _) o h = (
    (λ x q need.
        elim (cases_eq q p) [
          | inl e ↦ open-wants c p x o (subst (Wants c x) e need.2)
          | inr ne ↦ h.0 x q (omega (arith, need.0), need.1, need.2)
        ]),
    (λ a. tt),
  )
  fills-wider c p high (Err f) o h =
      let told = h.0 in
      let need = told.needed in (
        record { needed = (omega (arith, need.0), need.1, need.2); shut = told.shut; cause = told.cause; movement = told.movement; context = told.context },
        (λ a x q wants lt.
            elim (cases_eq q p) [
              | inl e ↦ open-wants c p x o (subst (Wants c x) e wants.2)
              | inr ne ↦ h.1 a x q (omega (arith, wants.0), wants.1, wants.2) lt
            ]),
      )

  fills-stop : (c : Cursor) (p high : ℕ) → p < high → fill_open c m p ≡ false → Fills c p high (Err (fault_at m (fill_shut c m p) Fill context p))
  fills-stop c p high lt o =
      let w = word_of c p in
      let shut = shut-wants c p o in (
        record { needed = (omega arith, lt, shut.0); shut = shut.1; cause = refl; movement = refl; context = refl },
        (λ a x q wants less.
            let own : fill_shut c m p ≡ w =
            elim (cases_Bool (is_open m w)) [
              | inl opened ↦
                  let s : fill_shut c m p ≡ collection_of w = cond-true (is_open m w) (collection_of w) w opened in
                  absurd (both_ways (is_open m (collection_of w)) (ap (is_open m) (sym s) ∙ shut.1) (same_door m w a ∙ opened))
              | inr closed ↦ cond-false (is_open m w) (collection_of w) w closed
            ]
            in
            let up : w ≤ word_of c q = address_monotone c.start p q wants.0 in
            let below : x < fill_shut c m p = less in
            let z : ⊥ =
            elim wants.2 [
              | inl e ↦ omega (arith, e, own, up, below)
              | inr y ↦ let e : x ≡ collection_of (word_of c q) = y.1 in omega (arith, e, own, up, below)
            ]
            in
            absurd z),
      )

  pub fills_told : (c : Cursor) (n p high : ℕ) → n ≡ high - p → Fills c p high (fills_asked m context c n p)
  fills_told c zero p high e = ((λ x q need. let z : ⊥ = omega (arith, need.0, need.1) in absurd z), (λ a. tt))
  fills_told c (suc n) p high e =
      let lt : p < high = omega arith in
      cond_both (fill_open c m p) (fills_asked m context c n (p + 1)) (fill_answer m context c p) (Fills c p high)
      (λ o. fills-wider c p high (fills_asked m context c n (p + 1)) o (fills_told c n (p + 1) high (omega arith)))
      (λ o. subst (Fills c p high) (sym (cond-false (fill_open c m p) (Ok tt) (Err (fault_at m (fill_shut c m p) Fill context p)) o)) (fills-stop c p high lt o))

  -- ---- lowering

  pub lower_told : (c : Cursor) (w : ℕ) → Told m Lowering context (LowerNeeds c w) (lower_answer m context c w)
  lower_told c w =
      let q = collection_of w in
      let p = positions_below c.start w in
      let f : MoveFault = fault_at m q Lowering context p in
      let P : MoveResult → Type 0 = Told m Lowering context (LowerNeeds c w) in
      cond_both (lower_reads c w) (ask_of m q Lowering context p) (Ok tt) P
      (λ reads. cond_both (is_open m q) (Ok tt) (Err f) P
      (λ o x k need. ap (is_open m) need.1 ∙ o)
      (λ o. record { needed = (reads, refl, refl); shut = o; cause = refl; movement = refl; context = refl }))
      (λ none x k need. absurd (both_ways (lower_reads c w) none need.0))
