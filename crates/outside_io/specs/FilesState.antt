-- What contracts see of the files that are held in memory, and what one read of them does.
use Rattle.std.specs.Prelude.{ℕ, List, [], ◌∷◌, ◌++◌, length, Option, Some, None, nat_eq, nat_le, if◌then◌else◌}
use Rattle.std.specs.Prelude.{unwrap_or}
use Rattle.std.specs.List.{list_any}
use Rattle.outside_io.specs.declared.reading.ReadAnswer.{ReadAnswer}
use Rattle.outside_io.specs.declared.reading.ReadAnswer.TheVariants.{Done, TooLong, Failed, NoMemory}
use Rattle.outside_io.specs.Counts.{raised, raised_by}
use Rattle.std.specs.Prelude.{refl}
use Rattle.std.specs.Coded.{Coded, code_by, coded×, coded_ℕ, coded_list, coded_option}
use Rattle.outside_io.specs.Contents.{Contents, contents_code, bytes_of}

-- a `FilesInMemory`
pub record FilesState : Type 0 where
  -- the files by name
  pub files : Contents
  -- the numbers of the reads that fail, counted from 0
  pub fails : List ℕ
  -- how many reads there were; one that failed to allocate is no read
  pub reads : ℕ
  pub faults : ℕ
  -- how many bytes were taken
  pub taken : ℕ
  -- the name of the last read that failed
  pub failed : Option (List ℕ)
  -- the names of the reads, in their order
  pub asked : List (List ℕ)

-- a `SureFiles`
pub record SureState : Type 0 where
  pub files : Contents
  pub taken : ℕ
  -- the names of the reads, in their order
  pub asked : List (List ℕ)

-- the states are stored as the tuples of their fields
abbrev pub files_state_code : Coded FilesState
files_state_code =
    code_by (Contents × (List ℕ × (ℕ × (ℕ × (ℕ × (Option (List ℕ) × List (List ℕ)))))))
    (coded× contents_code
    (coded× (coded_list coded_ℕ)
    (coded× coded_ℕ
    (coded× coded_ℕ
    (coded× coded_ℕ (coded× (coded_option (coded_list coded_ℕ)) (coded_list (coded_list coded_ℕ))))))))
    (λ s. (s.files, (s.fails, (s.reads, (s.faults, (s.taken, (s.failed, s.asked)))))))
    (λ p. record { files = p.0; fails = p.1.0; reads = p.1.1.0; faults = p.1.1.1.0; taken = p.1.1.1.1.0; failed = p.1.1.1.1.1.0; asked = p.1.1.1.1.1.1 })
    (λ _. refl)

abbrev pub sure_state_code : Coded SureState
sure_state_code =
    code_by (Contents × (ℕ × List (List ℕ)))
    (coded× contents_code (coded× coded_ℕ (coded_list (coded_list coded_ℕ))))
    (λ s. (s.files, (s.taken, s.asked)))
    (λ p. record { files = p.0; taken = p.1.0; asked = p.1.1 })
    (λ _. refl)

-- how a read of this file ends that is not made to fail: a file that is not there fails
abbrev pub end_at : Option (List ℕ) → ℕ → ReadAnswer
end_at None at_most = Failed
end_at (Some bytes) at_most = if nat_le (length bytes) at_most then Done else TooLong

-- how a read ends, where no allocation fails
abbrev pub read_end : FilesState → List ℕ → ℕ → ReadAnswer
read_end s name at_most =
    if list_any (λ number. nat_eq number s.reads) s.fails then Failed else end_at (bytes_of s.files name) at_most

-- the files after a read of this name that ended so. A file that is done was taken whole, and one that is too
-- long not at all
abbrev pub after_read : FilesState → List ℕ → ReadAnswer → FilesState
after_read s name Done = record s { reads = raised s.reads; taken = raised_by (length (unwrap_or (bytes_of s.files name) [])) s.taken; asked = s.asked ++ name ∷ [] }
after_read s name TooLong = record s { reads = raised s.reads; asked = s.asked ++ name ∷ [] }
after_read s name Failed =
    record s { reads = raised s.reads; faults = raised s.faults; failed = Some name; asked = s.asked ++ name ∷ [] }
after_read s name NoMemory = s

-- the bytes that sure files have of a name: a name that is not there has none
abbrev pub sure_bytes_of : Contents → List ℕ → List ℕ
sure_bytes_of files name = unwrap_or (bytes_of files name) []

-- what sure files have of each name
abbrev pub told_of : SureState → List ℕ → Option (List ℕ)
told_of s name = Some (sure_bytes_of s.files name)

-- how a read of sure files ends, where no allocation fails
abbrev pub sure_read_end : SureState → List ℕ → ℕ → ReadAnswer
sure_read_end s name at_most = end_at (told_of s name) at_most

-- sure files after a read of this name that ended so
abbrev pub after_sure_read : SureState → List ℕ → ReadAnswer → SureState
after_sure_read s name Done =
    record s { taken = raised_by (length (sure_bytes_of s.files name)) s.taken; asked = s.asked ++ name ∷ [] }
after_sure_read s name TooLong = record s { asked = s.asked ++ name ∷ [] }
after_sure_read s name Failed = s
after_sure_read s name NoMemory = s
