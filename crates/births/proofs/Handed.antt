-- At a birth the object's row of entries goes to the hidden node: the facts of the entries and of the mappings are kept. Assumes nothing.
use Rattle.std.specs.Prelude.{None}
use mathlib.Core.Path.{◌≡◌, sym, ap, ◌∙◌}
use mathlib.Core.List.{List}
use Prim.Native.Nat.{ℕ, zero, suc, ◌≤◌, ◌<◌}
use native.Mathlib.Omega.{arith}
use Rattle.logic.specs.Below.{sum_below}
use Rattle.logic.proofs.Means.{equal, less, split}
use Rattle.entry.specs.declared.PageState.{PageState}
use Rattle.entry.specs.Entry.{slot_of}
use Rattle.node.specs.declared.Node.{Node}
use Rattle.tables.specs.Tables.{node_of, entry_of, slot_at, mapping_of}
use Rattle.sound.specs.Facts.{Leaf, Tree, Holds, pins_of, Stands, Entries, Mappings}
use Rattle.soundness.proofs.Records.{entry_past}
use Rattle.soundness.proofs.Slots.{absent}
use Rattle.soundness.proofs.Sums.{sum_same, sum_most}
use Rattle.births.proofs.Cloned.{Old, Which, which, Cloned, c_not_n, leaf_live, live-old, kind_x}
use Rattle.births.proofs.Cloned.Which.{is_x, is_n, is_c, is_old}
use Rattle.lookups.proofs.Spots.{held_not}

-- the entries of n are x's, and n has none
pub record RowMoved (P P' : List ℕ) (n x : ℕ) : Type 0 where
  pub at_x : (j : ℕ) → entry_of P' x j ≡ entry_of P n j
  pub at_n : (j : ℕ) → entry_of P' n j ≡ 0
  pub rest : (m j : ℕ) → (m ≡ n → ⊥) → (m ≡ x → ⊥) → entry_of P' m j ≡ entry_of P m j

module _ (P P' : List ℕ) (n x : ℕ) (v : RowMoved P P' n x) where
  pub slots_x : (j : ℕ) → slot_at P' x j ≡ slot_at P n j
  unfolding slot_at
  slots_x j = ap slot_of (v.at_x j)

  pub slots_n : (j : ℕ) → slot_at P' n j ≡ None
  unfolding slot_at
  slots_n j = absent (entry_of P' n j) (rw (v.at_n j))

  pub slots_rest : (m j : ℕ) → (m ≡ n → ⊥) → (m ≡ x → ⊥) → slot_at P' m j ≡ slot_at P m j
  unfolding slot_at
  slots_rest m j a b = ap slot_of (v.rest m j a b)

-- a page past the last is absent
past_empty : (P : List ℕ) (n j : ℕ) → 64 ≤ j → slot_at P n j ≡ None
unfolding slot_at
past_empty P n j l = absent (entry_of P n j) (rw (entry_past P n j l))

term_most : (f : ℕ → ℕ) (m j : ℕ) → j < m → f j ≤ sum_below f m
unfolding sum_below
term_most f zero j l = absurd (omega arith)
term_most f (suc m) j l =
    split (equal j m)
    (λ e. let q : f j ≡ f m = rw e in omega arith)
    (λ ne. let q = term_most f m j (omega arith) in omega arith)

module _ (N N' P P' U : List ℕ) (n x c first pages next : ℕ) (D : Cloned N N' n x c first pages next) (t : Tree N next) (v : RowMoved P P' n x) (o : Entries N P U) (unpinned : (node_of N n).pin_count ≡ 0) where
  -- a free node has no entry
  bare_free : (m j : ℕ) (s : PageState) → (node_of N m).kind ≡ 0 → Holds P m j s → ⊥
  bare_free m j s z h = let l = o.below m j s h in let q = ap (λ (r : Node). r.size) (t.blank m z) in omega arith

  c_not_x : c ≡ x → ⊥
  c_not_x e = D.apart (sym e)

  -- where an entry stood before
  from : {A : Type 0} (m j : ℕ) (s : PageState) → Holds P' m j s → (m ≡ x → Holds P n j s → A) → (Old n x c m → Holds P m j s → A) → A
  from {A} m j s h f g = by (which n x c m)
    where
      by : Which n x c m → A
      by (is_x e) = f e (sym (slots_x P P' n x v j) ∙ (rw e at h))
      by (is_n e) = absurd (held_not h (rw e (slots_n P P' n x v j)))
      by (is_c e) = absurd (bare_free c j s D.c_free (sym (slots_rest P P' n x v c j (c_not_n N N' n x c first pages next D) c_not_x) ∙ (rw e at h)))
      by (is_old y) = g y (sym (slots_rest P P' n x v m j y.not_n y.not_x) ∙ h)

  once_by : (a i b j : ℕ) (s u : PageState) → Holds P' a i s → Holds P' b j u → s.frame ≡ u.frame → (a ≡ b) × (i ≡ j)
  once_by a i b j s u h k q =
      from a i s h
      (λ d y. from b j u k (λ e z. (d ∙ sym e, (o.once n i n j s u y z q).1)) (λ e z. absurd (e.not_n (sym (o.once n i b j s u y z q).0))))
      (λ d y. from b j u k (λ e z. absurd (d.not_n (o.once a i n j s u y z q).0)) (λ e z. o.once a i b j s u y z q))

  stands_by : (f : ℕ) → Stands P f → Stands P' f
  stands_by f d =
      split (equal d.node n)
      (λ e. record { node = x; page = d.page; state = d.state; holds = slots_x P P' n x v d.page ∙ (rw e at d.holds); frame = d.frame })
      (λ ne.
      let no : d.node ≡ x → ⊥ = λ e. bare_free x d.page d.state D.x_free (rw e at d.holds) in
      record { node = d.node; page = d.page; state = d.state; holds = slots_rest P P' n x v d.node d.page ne no ∙ d.holds; frame = d.frame })

  -- the object's entries have no pins
  pins_none : (j : ℕ) (s : PageState) → Holds P n j s → s.pin_count ≡ 0
  pins_none j s h =
      split (less j 64)
      (λ l.
      let a = term_most (λ i. pins_of (slot_at P n i)) 64 j l in
      let b = o.pin_sum n in
      let e : pins_of (slot_at P n j) ≡ s.pin_count = rw h in
      omega arith)
      (λ out. absurd (held_not h (past_empty P n j (omega arith))))

  pin_by : (m : ℕ) → Which n x c m → sum_below (λ i. pins_of (slot_at P' m i)) 64 ≤ (node_of N' m).pin_count
  pin_by m (is_x e) =
      let s = sum_same (λ i. pins_of (slot_at P' m i)) (λ i. pins_of (slot_at P n i)) 64 (λ i. rw (e, slots_x P P' n x v i)) in
      let q = o.pin_sum n in
      let k : (node_of N' m).pin_count ≡ (node_of N n).pin_count = rw (e, D.at_x) in
      omega arith
  pin_by m (is_n e) =
      let s = sum_most (λ i. pins_of (slot_at P' m i)) 0 64 (λ i. rw (e, slots_n P P' n x v i) (omega arith)) in
      omega arith
  pin_by m (is_c e) =
      let ne : m ≡ n → ⊥ = λ q. c_not_n N N' n x c first pages next D (sym e ∙ q) in
      let s = sum_same (λ i. pins_of (slot_at P' m i)) (λ i. pins_of (slot_at P m i)) 64 (λ i. ap pins_of (slots_rest P P' n x v m i ne (λ q. c_not_x (sym e ∙ q)))) in
      let q = o.pin_sum m in
      let k : (node_of N m).pin_count ≡ 0 = ap (λ (r : Node). r.pin_count) (t.blank m (rw e D.c_free)) in
      omega arith
  pin_by m (is_old y) =
      let s = sum_same (λ i. pins_of (slot_at P' m i)) (λ i. pins_of (slot_at P m i)) 64 (λ i. ap pins_of (slots_rest P P' n x v m i y.not_n y.not_x)) in
      let q = o.pin_sum m in
      let k = (D.at_old m y).pins in
      omega arith

  empty_at : (m j : ℕ) → slot_at P' m j ≡ None → entry_of P' m j ≡ 0
  empty_at m j h =
      split (equal m x)
      (λ e. rw e (v.at_x j ∙ o.empty n j (sym (slots_x P P' n x v j) ∙ (rw e at h))))
      (λ ne.
      split (equal m n)
      (λ e. rw e (v.at_n j))
      (λ no. v.rest m j no ne ∙ o.empty m j (sym (slots_rest P P' n x v m j no ne) ∙ h)))

  pub born_entries : Entries N' P' U
  born_entries =
      record {
        once = once_by;
        stands = λ f l u. stands_by f (o.stands f l u);
        in_use = λ m j s h. from m j s h (λ e k. o.in_use n j s k) (λ y k. o.in_use m j s k);
        leaves = λ m j s f h.
            from m j s h
            (λ e k. absurd (f (rw e (kind_x N N' n x c first pages next D))))
            (λ y k. o.leaves m j s (λ z. f ((D.at_old m y).kind ∙ z)) k);
        below = λ m j s h. from m j s h (λ e k. rw (e, D.at_x) (o.below n j s k)) (λ y k. rw (D.at_old m y).size (o.below m j s k));
        pins = λ m j s h. from m j s h (λ e k. o.pins n j s k) (λ y k. o.pins m j s k);
        hidden_pins = λ m j s f h. from m j s h (λ e k. pins_none j s k) (λ y k. o.hidden_pins m j s (sym (D.at_old m y).kind ∙ f) k);
        pin_sum = λ m. pin_by m (which n x c m);
        frames = λ m j s h. from m j s h (λ e k. o.frames n j s k) (λ y k. o.frames m j s k);
        flags = o.flags;
        empty = empty_at;
        held = λ m j s h.
            from m j s h
            (λ e k. rw e (v.at_x j) ∙ o.held n j s k)
            (λ y k. v.rest m j y.not_n y.not_x ∙ o.held m j s k);
      }

module _ (N N' : List ℕ) (n x c first pages owner : ℕ) (D : Cloned N N' n x c first pages owner) where
  leaf_kept : (m : ℕ) → Leaf N m → Leaf N' m
  leaf_kept m l =
      split (equal m n)
      (λ e. rw (e, D.at_n) D.leaf)
      (λ ne. rw (D.at_old m (live-old N N' n x c first pages owner D m (leaf_live N m l) ne)).kind l)

  pub born_mappings : (M : List ℕ) → Mappings N M → Mappings N' M
  born_mappings M m =
      record {
        leaf = λ j live. leaf_kept (mapping_of M j).object (m.leaf j live);
        some_page = m.some_page;
        ends = m.ends;
        numbers = m.numbers;
        own = m.own;
        free = m.free;
        in_order = m.in_order;
      }
