-- A birth keeps the facts of the tree. Assumes nothing.
use mathlib.Core.Path.{◌≡◌, refl, sym, ap, ◌∙◌}
use mathlib.Core.List.{List}
use mathlib.Core.Logic.{inl, inr, ⊎_elim}
use Prim.Native.Nat.{ℕ, ◌+◌, ◌-◌}
use native.Mathlib.Omega.{arith}
use Rattle.logic.proofs.Means.{equal, split}
use Rattle.node.specs.declared.Node.{Node}
use Rattle.tables.specs.Tables.{node_of}
use Rattle.sound.specs.Facts.{Live, Hidden, ChildOf, Names, Ends, Tree}
use Rattle.sound.specs.Facts.Ends.{none, up}
use Rattle.births.proofs.Cloned.{Old, Which, Moves, Cloned, live_n, c_not_n, live_not_x, live-old, hidden_old, hidden_kept, kind_n, kind_c, kind_x}
use Rattle.births.proofs.Cloned.Which.{is_x, is_n, is_c, is_old}

module _ (N N' : List ℕ) (n x c first pages next : ℕ) (D : Cloned N N' n x c first pages next) (t : Tree N next) where
  -- a child's link

  live_x : Live N' x
  live_x z = let k = kind_x N N' n x c first pages next D in omega arith

  names_old : (h link link' : ℕ) → Moves n x link link' → Names N h link → Names N' h link'
  names_old h link link' mv m =
      split (equal m.node n)
      (λ e. record {
        node = x;
        linked = let q = m.linked in mv.moved (omega arith);
        live = live_x;
        parent = ap (λ (r : Node). r.parent) D.at_x ∙ sym (ap (λ (k : ℕ). (node_of N k).parent) e) ∙ m.parent;
      })
      (λ ne.
      let k = D.at_old m.node (live-old N N' n x c first pages next D m.node m.live ne) in
      record {
        node = m.node;
        linked = let q = m.linked in mv.kept (λ e. ne (omega arith)) ∙ q;
        live = λ z. m.live (sym k.kind ∙ z);
        parent = k.parent ∙ m.parent;
      })

  names_n : Names N' x (n + 1)
  names_n =
      record {
        node = n;
        linked = refl;
        live = λ z. live_n N N' n x c first pages next D (sym (ap (λ (r : Node). r.kind) D.at_n) ∙ z);
        parent = ap (λ (r : Node). r.parent) D.at_n;
      }

  names_c : Names N' x (c + 1)
  names_c =
      record {
        node = c;
        linked = refl;
        live = λ z. let k = ap (λ (r : Node). r.kind) D.at_c in omega arith;
        parent = ap (λ (r : Node). r.parent) D.at_c;
      }

  was_hidden : (m : ℕ) → Old n x c m → Hidden N' m → Hidden N m
  was_hidden m o h = sym (D.at_old m o).kind ∙ h

  pub left_by : (m : ℕ) → Which n x c m → Hidden N' m → Names N' m (node_of N' m).left
  left_by m (is_x e) h = rw (e, D.at_x) names_n
  left_by m (is_n e) h = absurd (kind_n N N' n x c first pages next D (rw e at h))
  left_by m (is_c e) h = absurd (kind_c N N' n x c first pages next D (rw e at h))
  left_by m (is_old o) h = names_old m (node_of N m).left (node_of N' m).left (D.at_old m o).left (t.left_child m (was_hidden m o h))

  pub right_by : (m : ℕ) → Which n x c m → Hidden N' m → Names N' m (node_of N' m).right
  right_by m (is_x e) h = rw (e, D.at_x) names_c
  right_by m (is_n e) h = absurd (kind_n N N' n x c first pages next D (rw e at h))
  right_by m (is_c e) h = absurd (kind_c N N' n x c first pages next D (rw e at h))
  right_by m (is_old o) h = names_old m (node_of N m).right (node_of N' m).right (D.at_old m o).right (t.right_child m (was_hidden m o h))

  -- no link named x before
  link_not_x : (h link : ℕ) → Names N h link → link ≡ x + 1 → ⊥
  link_not_x h link m e = let q = m.linked in live_not_x N N' n x c first pages next D m.node m.live (omega arith)

  apart_by : (h a b a' b' : ℕ) → Moves n x a a' → Moves n x b b' → Names N h a → Names N h b → (a ≡ b → ⊥) → a' ≡ b' → ⊥
  apart_by h a b a' b' u v j k ne e =
      split (equal a (n + 1))
      (λ p. split (equal b (n + 1)) (λ q. ne (p ∙ sym q)) (λ q. link_not_x h b k (sym (v.kept q) ∙ sym e ∙ u.moved p)))
      (λ p. split (equal b (n + 1)) (λ q. link_not_x h a j (sym (u.kept p) ∙ e ∙ v.moved q)) (λ q. ne (sym (u.kept p) ∙ e ∙ v.kept q)))

  pub distinct_by : (m : ℕ) → Which n x c m → Hidden N' m → (node_of N' m).left ≡ (node_of N' m).right → ⊥
  distinct_by m (is_x e) h = rw (e, D.at_x) (λ q. c_not_n N N' n x c first pages next D (omega arith))
  distinct_by m (is_n e) h = absurd (kind_n N N' n x c first pages next D (rw e at h))
  distinct_by m (is_c e) h = absurd (kind_c N N' n x c first pages next D (rw e at h))
  distinct_by m (is_old o) h =
      let k = was_hidden m o h in
      let r = D.at_old m o in
      apart_by m (node_of N m).left (node_of N m).right (node_of N' m).left (node_of N' m).right r.left r.right (t.left_child m k) (t.right_child m k) (t.distinct m k)

  pub childless_by : (m : ℕ) → Which n x c m → (Hidden N' m → ⊥) → ((node_of N' m).left ≡ 0) × ((node_of N' m).right ≡ 0)
  childless_by m (is_x e) h = absurd (h (rw e (kind_x N N' n x c first pages next D)))
  childless_by m (is_n e) h = rw (e, D.at_n) (t.childless n (λ k. h (rw (e, D.at_n) k)))
  childless_by m (is_c e) h = rw (e, D.at_c) (refl, refl)
  childless_by m (is_old o) h =
      let r = D.at_old m o in
      let z = t.childless m (λ k. h (r.kind ∙ k)) in
      (r.left.kept (λ e. omega arith) ∙ z.0, r.right.kept (λ e. omega arith) ∙ z.1)

  -- parents

  pub parents_by : (m h : ℕ) → Which n x c m → (node_of N' m).parent ≡ h + 1 → Hidden N' h × ChildOf N' h m
  parents_by m h (is_x e) p =
      let q : (node_of N n).parent ≡ h + 1 = sym (ap (λ (k : ℕ). (node_of N' k).parent) e ∙ ap (λ (r : Node). r.parent) D.at_x) ∙ p in
      let g = t.parents n h q in
      let r = D.at_old h (hidden_old N N' n x c first pages next D h g.0) in
      (hidden_kept N N' n x c first pages next D h g.0, rw e (⊎_elim (λ y. inl (r.left.moved y)) (λ y. inr (r.right.moved y)) g.1))
  parents_by m h (is_n e) p =
      let q : x + 1 ≡ h + 1 = sym (ap (λ (k : ℕ). (node_of N' k).parent) e ∙ ap (λ (r : Node). r.parent) D.at_n) ∙ p in
      let d : h ≡ x = omega arith in
      rw (d, e, D.at_x) (refl, inl refl)
  parents_by m h (is_c e) p =
      let q : x + 1 ≡ h + 1 = sym (ap (λ (k : ℕ). (node_of N' k).parent) e ∙ ap (λ (r : Node). r.parent) D.at_c) ∙ p in
      let d : h ≡ x = omega arith in
      rw (d, e, D.at_x) (refl, inr refl)
  parents_by m h (is_old o) p =
      let g = t.parents m h (sym (D.at_old m o).parent ∙ p) in
      let r = D.at_old h (hidden_old N N' n x c first pages next D h g.0) in (
        hidden_kept N N' n x c first pages next D h g.0,
        ⊎_elim
            (λ y. inl (r.left.kept (λ z. o.not_n (omega arith)) ∙ y))
            (λ y. inr (r.right.kept (λ z. o.not_n (omega arith)) ∙ y))
            g.1,
      )

  -- chains

  ends_old : {l : ℕ} → ((m : ℕ) → l ≡ m + 1 → Old n x c m) → Ends N l → Ends N' l
  ends_old f (none e) = none e
  ends_old f (up m e d) =
      up m e
      (rw (D.at_old m (f m e)).parent
      (ends_old (λ k p. hidden_old N N' n x c first pages next D k (t.parents m k p).0) d))

  ends_x : Ends N' (x + 1)
  ends_x =
      up x refl
      (rw D.at_x
      (split (equal (node_of N n).parent 0)
      (λ z. none z)
      (λ ne.
      let h = (node_of N n).parent - 1 in
      let e : (node_of N n).parent ≡ h + 1 = omega arith in
      rw e (ends_old (λ k p. let d : k ≡ h = omega arith in rw d (hidden_old N N' n x c first pages next D h (t.parents n h e).0)) (t.chains h)))))

  pub chain_by : (m : ℕ) → Which n x c m → Ends N' (m + 1)
  chain_by m (is_x e) = rw e ends_x
  chain_by m (is_n e) = up m refl (rw (e, D.at_n) ends_x)
  chain_by m (is_c e) = up m refl (rw (e, D.at_c) ends_x)
  chain_by m (is_old o) = ends_old (λ k p. let d : k ≡ m = omega arith in rw d o) (t.chains m)
