-- Notices put where there is room for all of them all stand in the list. Assumes nothing.
use mathlib.Core.Path.{◌≡◌, refl, ◌∙◌}
use mathlib.Core.List.{List, [], ◌∷◌, ◌++◌}
use Prim.Native.Nat.{ℕ, zero, suc, ◌+◌, ◌*◌, ◌/◌, ◌≤◌, ◌<◌}
use native.Mathlib.Omega.{arith}
use lib.ListN.{length, get_or, set, length-set}
use lib.Seq.{get_or-set_same, get_or-set_other}
use borrow.Author.Tests.{lt-ltb, le-ltb}
use Rattle.outcome.specs.declared.notice.Notice.{Notice}
use Rattle.outcome.specs.Told.{Told, told_of, notice_by, put_notice}
use Rattle.logic.proofs.Means.{less, split}
use Rattle.bounds.specs.Telling.{put_all, notice_in, Wrote, Added}

-- four words set

module _ (l : List ℕ) (c : ℕ) (n : Notice) where
  abbrev one : List ℕ
  one = set l (c * 4) n.mapping

  abbrev two : List ℕ
  two = set one (c * 4 + 1) n.first

  abbrev three : List ℕ
  three = set two (c * 4 + 2) n.pages

  abbrev four : List ℕ
  four = set three (c * 4 + 3) n.op

  four-length : length four ≡ length l
  four-length = simp length-set

  not_fourth : (x : ℕ) → (x ≡ c * 4 + 3 → ⊥) → get_or four x 0 ≡ get_or three x 0
  not_fourth x = get_or-set_other three (c * 4 + 3) x n.op 0

  not_third : (x : ℕ) → (x ≡ c * 4 + 2 → ⊥) → get_or three x 0 ≡ get_or two x 0
  not_third x = get_or-set_other two (c * 4 + 2) x n.pages 0

  not_second : (x : ℕ) → (x ≡ c * 4 + 1 → ⊥) → get_or two x 0 ≡ get_or one x 0
  not_second x = get_or-set_other one (c * 4 + 1) x n.first 0

  four-other : (x : ℕ) → ((k : ℕ) → k < 4 → x ≡ c * 4 + k → ⊥) → get_or four x 0 ≡ get_or l x 0
  four-other x out =
      not_fourth x (out 3 (omega arith)) ∙ not_third x (out 2 (omega arith)) ∙ not_second x (out 1 (omega arith))
      ∙ get_or-set_other l (c * 4) x n.mapping 0 (λ e. out 0 (omega arith) (omega arith))

  four_there : c * 4 + 3 < length l → notice_in four c ≡ n
  four_there h =
      let a : length one ≡ length l = simp length-set in
      let b : length two ≡ length l = simp length-set in
      let d : length three ≡ length l = simp length-set in
      let m =
      not_fourth (c * 4) (λ e. omega arith) ∙ not_third (c * 4) (λ e. omega arith) ∙ not_second (c * 4) (λ e. omega arith)
      ∙ get_or-set_same l (c * 4) n.mapping 0 (omega arith) in
      let f =
      not_fourth (c * 4 + 1) (λ e. omega arith) ∙ not_third (c * 4 + 1) (λ e. omega arith) ∙ get_or-set_same one (c * 4 + 1) n.first 0 (omega arith) in
      let g = not_fourth (c * 4 + 2) (λ e. omega arith) ∙ get_or-set_same two (c * 4 + 2) n.pages 0 (omega arith) in
      let o = get_or-set_same three (c * 4 + 3) n.op 0 (omega arith) in
      rw (m, f, g, o)

same_notice : (l l' : List ℕ) (c : ℕ) → ((x : ℕ) → x < (c + 1) * 4 → get_or l' x 0 ≡ get_or l x 0) → notice_in l' c ≡ notice_in l c
same_notice l l' c h = rw (h (c * 4) (omega arith), h (c * 4 + 1) (omega arith), h (c * 4 + 2) (omega arith), h (c * 4 + 3) (omega arith))

-- one notice more

put_is : (t : Told) (n : Notice) → t.count < length t.list / 4 → put_notice t n ≡ told_of (four t.list t.count n) (t.count + 1)
unfolding put_notice
put_is t n h = rw (lt-ltb _ _ h)

put_full : (t : Told) (n : Notice) → length t.list / 4 ≤ t.count → put_notice t n ≡ t
unfolding put_notice
put_full t n h = rw (le-ltb _ _ h)

pub wrote_none : (t : Told) (m : ℕ) → Wrote t m t
wrote_none t m = record { more = omega arith; few = omega arith; before = λ x b. refl; past = λ x b. refl; room = refl }

four_wrote : (t : Told) (n : Notice) → Wrote t 1 (told_of (four t.list t.count n) (t.count + 1))
four_wrote t n =
    record {
      more = omega arith;
      few = omega arith;
      before = λ x b. four-other t.list t.count n x (λ k m e. omega arith);
      past = λ x b. four-other t.list t.count n x (λ k m e. omega arith);
      room = four-length t.list t.count n;
    }

put_wrote : (t : Told) (n : Notice) → Wrote t 1 (put_notice t n)
put_wrote t n =
    split (less t.count (length t.list / 4))
    (λ h. rw (put_is t n h) (four_wrote t n))
    (λ out. rw (put_full t n (omega arith)) (wrote_none t 1))

-- all of them, with or without room

pub wrote_both : {t t' t'' : Told} (m n : ℕ) → Wrote t m t' → Wrote t' n t'' → Wrote t (m + n) t''
wrote_both m n a b =
    let p = a.more in
    let q = b.more in
    let r = a.few in
    let s = b.few in
    record {
      more = omega arith;
      few = omega arith;
      before = λ x l. b.before x (omega arith) ∙ a.before x l;
      past = λ x l. b.past x l ∙ a.past x (omega arith);
      room = b.room ∙ a.room;
    }

pub wrote_in : {t t' : Told} {m n : ℕ} → m ≤ n → Wrote t m t' → Wrote t n t'
wrote_in l w = let f = w.few in record { more = w.more; few = omega arith; before = w.before; past = w.past; room = w.room }

pub all_wrote : (ns : List Notice) (t : Told) → Wrote t (length ns) (put_all t ns)
unfolding put_all
all_wrote [] t = wrote_none t 0
all_wrote (n ∷ ns) t =
    let e : suc (length ns) ≡ 1 + length ns = omega arith in
    rw e (wrote_both 1 (length ns) (put_wrote t n) (all_wrote ns (put_notice t n)))

pub put_both : (ns ms : List Notice) (t : Told) → put_all t (ns ++ ms) ≡ put_all (put_all t ns) ms
unfolding put_all
put_both [] ms t = refl
put_both (n ∷ ns) ms t = put_both ns ms (put_notice t n)

-- where there is room for them

all_next : (t : Told) (n : Notice) (ns : List Notice) (t' : Told) → t.count < length t.list / 4 → Wrote (put_notice t n) (length ns) t' → Added (put_notice t n) ns t' → Added t (n ∷ ns) t'
all_next t n ns t' h w a =
    let e = put_is t n h in
    let w' = rw e at w in
    let a' = rw e at a in
    record { count = a'.count ∙ omega arith; there = there w' a' }
  where
    there : Wrote (told_of (four t.list t.count n) (t.count + 1)) (length ns) t' → Added (told_of (four t.list t.count n) (t.count + 1)) ns t' → (j : ℕ) → j < length (n ∷ ns) → notice_in t'.list (t.count + j) ≡ get_or (n ∷ ns) j (notice_by 0 0 0 0)
    there w a zero b =
        let e : t.count + 0 ≡ t.count = omega arith in
        rw e (same_notice (four t.list t.count n) t'.list t.count w.before ∙ four_there t.list t.count n (omega arith))
    there w a (suc j) b = let e : t.count + suc j ≡ t.count + 1 + j = omega arith in rw e (a.there j (omega arith))

pub all_added : (ns : List Notice) (t : Told) → t.count + length ns ≤ length t.list / 4 → Added t ns (put_all t ns)
unfolding put_all
all_added [] t h = record { count = omega arith; there = λ j b. absurd (omega arith) }
all_added (n ∷ ns) t h =
    let w = put_wrote t n in
    let f = w.few in
    let r = w.room in
    all_next t n ns _ (omega arith) (all_wrote ns (put_notice t n)) (all_added ns (put_notice t n) (rw r (omega arith)))
