-- The test holds exactly if the facts of a sound pool do. Assumes nothing.
use mathlib.Core.Path.{◌≡◌}
use mathlib.Core.Bool.{true}
use Prim.Native.Nat.{ℕ, ◌*◌}
use lib.ListN.{length, get_or}
use Rattle.tables.specs.Pool.{Pool}
use Rattle.sound.specs.Sound.{lengths_ok, tables_ok, sound}
use Rattle.sound.specs.Facts.{Lengths, Sound}
use Rattle.logic.proofs.Means.{Means, says, equal, most, both, both_two, guard}
use Rattle.soundness.proofs.Trees.{tree_means}
use Rattle.soundness.proofs.Frames.{entries_mean}
use Rattle.soundness.proofs.Mapped.{mappings_mean}

module _ (L : ℕ) (p : Pool) where
  pub lengths_mean : Means (lengths_ok L p) (Lengths L p)
  unfolding lengths_ok
  lengths_mean =
      says
      (guard (most (length p.used) 1024) (λ few.
      both (both (both (both (both (equal (length p.nodes) 1024) (equal (length p.pages) 4096)) (equal (length p.mappings) 256))
      (equal (length p.head) 4)) (most 1 (length p.used))) (equal (length p.memory) (length p.used * L))))
      (λ (few, (((((nodes, pages), mappings), head), some), memory)).
      record { nodes = nodes; pages = pages; mappings = mappings; head = head; some_frame = some; most_frames = few; memory = memory })
      (λ l. (l.most_frames, (((((l.nodes, l.pages), l.mappings), l.head), l.some_frame), l.memory)))

  sound_means : Means (sound L p) (Sound L p)
  unfolding sound tables_ok
  sound_means =
      says
      (guard lengths_mean (λ l.
      both
      (both_two _ _ (tree_means p.nodes (get_or p.head 0 0) l.nodes) (entries_mean p.pages l.pages p.nodes p.used l.most_frames))
      (mappings_mean p.nodes p.mappings l.mappings)))
      (λ (lengths, ((tree, entries), mappings)). record { lengths = lengths; tree = tree; entries = entries; mappings = mappings })
      (λ s. (s.lengths, ((s.tree, s.entries), s.mappings)))

pub sound_facts : (L : ℕ) (p : Pool) → sound L p ≡ true → Sound L p
sound_facts L p = (sound_means L p).fact

pub facts_sound : (L : ℕ) (p : Pool) → Sound L p → sound L p ≡ true
facts_sound L p = (sound_means L p).test
