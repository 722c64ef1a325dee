-- What the bytes of a recipe say is never want of memory.
use Rattle.std.proofs.Common.{◌≡◌, ℕ, ◌+◌, ◌-◌, ◌^◌, take, List, [], ◌∷◌, Option, Some, None, Err, length, Bool, true, false, cond}
use Rattle.std.specs.Prelude.{◌==◌, is_some, not, option_and_then}
use Rattle.std.specs.List.{list_all}
use Rattle.ddc_base.specs.Results.{error_unless, or_error}
use Rattle.toml.specs.Data.{Data, Members, get_member, as_str}
use Rattle.ddc_base.specs.Names.{name_of}
use Rattle.ddc_base.specs.Limits.{most_address, most_heap, most_steps}
use Rattle.recipe.specs.declared.text.keys.Key.{Key}
use Rattle.recipe.specs.declared.text.keys.Key.TheVariants as key
use Rattle.recipe.specs.declared.text.keys.Place.{Place}
use Rattle.recipe.specs.declared.text.refusal.RecipeRefusal.TheVariants.{Missing, BadName, DoubleName, NotMadeYet, BadPath, OutOfMemory}
use Rattle.recipe.specs.Text.Keys.{key_word}
use Rattle.recipe.specs.Text.Reading.{gathered, each_passes, a_text, a_name, a_path, a_word, a_number, a_table, an_array, a_list, required, optional, no_other_key, document_of}
use Rattle.recipe.proofs.TextLemmas.Sated.{Sated, fine, sated_bind, sated_ok, sated_or, sated_unless, sated_gathered, sated_passes, sated_text, sated_name, sated_path, sated_word, sated_number, sated_table, sated_array, sated_list, sated_required, sated_optional, sated_no_other_key, sated_document}
use Rattle.recipe.specs.declared.contents.RecipeContents.{RecipeContents}
use Rattle.recipe.specs.declared.parts.Content.{Content}
use Rattle.recipe.specs.declared.parts.Content.TheVariants as content
use Rattle.recipe.specs.declared.parts.Input.{Input}
use Rattle.recipe.specs.declared.parts.Source.{Source}
use Rattle.recipe.specs.declared.parts.Stage.{Stage}
use Rattle.recipe.specs.declared.parts.StageFile.{StageFile}
use Rattle.recipe.specs.Lookups.{source_named, content_named, content_source, input_at}
use Rattle.recipe.specs.Reading.{first_walk, recipe_of}
use Rattle.recipe.specs.SecondWalk.{is_content, refers_to_source, input_refers, source_refers, is_defined, checks_source, check_refers, stage_refers_after, stage_refers, compare_refers, has_source, is_argued, program_has_source, is_stage, second_walk}
use Rattle.recipe.specs.Tables.{top_place, input_place, source_place, stage_place, compare_place, top_table, is_taken, a_new_name, input_table, next_input, source_language, a_language, source_table, next_source, guest_path, is_file_path, entry_text, next_file, some_files, output_parsed, an_output, stage_table, next_stage, stages_key, is_among, next_stage_name, some_stage_names, one_stage, compared_stages, compare_table}

-- ---- the first walk

sated_top : (table : Members) → Sated (top_table table)
unfolding top_table
sated_top table =
    sated_bind (required (a_number 1 2) top_place key.Format table) _ (sated_required (a_number 1 2) top_place key.Format table (sated_number 1 2 top_place key.Format)) (λ format.
    sated_bind (required (a_list a_table 1 256) top_place key.Input table) _ (sated_tables 1 key.Input table) (λ inputs.
    sated_bind (optional (a_list a_table 0 256) top_place key.Source table) _
    (sated_optional (a_list a_table 0 256) top_place key.Source table (λ value. sated_list a_table 0 256 top_place key.Source value (sated_table top_place key.Source))) (λ sources.
    sated_bind (required (a_list a_table 1 256) top_place key.Stage table) _ (sated_tables 1 key.Stage table) (λ stages.
    sated_bind (required a_table top_place key.Compare table) _ (sated_required a_table top_place key.Compare table (sated_table top_place key.Compare)) (λ compare.
    sated_bind (no_other_key top_place (key.Format ∷ key.Input ∷ key.Source ∷ key.Stage ∷ key.Compare ∷ []) table) _
    (sated_no_other_key top_place (key.Format ∷ key.Input ∷ key.Source ∷ key.Stage ∷ key.Compare ∷ []) table) (λ other. sated_ok _))))))
  where
    sated_tables : (least : ℕ) (k : Key) (table : Members) → Sated (required (a_list a_table least 256) top_place k table)
    sated_tables least k table = sated_required (a_list a_table least 256) top_place k table (λ value. sated_list a_table least 256 top_place k value (sated_table top_place k))

sated_new_name : (inputs : List Input) (sources : List Source) (stages : List Stage) (place : Place) (table : Members)
    → Sated (required (a_new_name inputs sources stages) place key.Name table)
unfolding a_new_name
sated_new_name inputs sources stages place table =
    sated_required (a_new_name inputs sources stages) place key.Name table (λ value.
    sated_bind (a_name place key.Name value) _ (sated_name place key.Name value) (λ name.
    sated_bind (error_unless (DoubleName place key.Name) (not (is_taken inputs sources stages name))) _
    (sated_unless (DoubleName place key.Name) (not (is_taken inputs sources stages name)) (λ is. absurd cc)) (λ u. sated_ok name)))

sated_input : (inputs : List Input) (place : Place) (table : Members) → Sated (input_table inputs place table)
unfolding input_table
sated_input inputs place table =
    sated_bind (required (a_new_name inputs [] []) place key.Name table) _ (sated_new_name inputs [] [] place table) (λ name.
    sated_bind (required a_path place key.Path table) _ (sated_required a_path place key.Path table (sated_path place key.Path)) (λ path.
    sated_bind (optional a_name place key.Implements table) _ (sated_optional a_name place key.Implements table (sated_name place key.Implements)) (λ implements.
    sated_bind (no_other_key place (key.Name ∷ key.Path ∷ key.Implements ∷ []) table) _ (sated_no_other_key place (key.Name ∷ key.Path ∷ key.Implements ∷ []) table) (λ other. sated_ok _))))

sated_language : (place : Place) (k : Key) (value : Data) → Sated (a_language place k value)
unfolding a_language
sated_language place k value = sated_bind (a_text place k value) _ (sated_text place k value) (λ word. sated_or (BadName place k) (source_language word) (λ is. absurd cc))

sated_source : (inputs : List Input) (sources : List Source) (place : Place) (table : Members) → Sated (source_table inputs sources place table)
unfolding source_table
sated_source inputs sources place table =
    sated_bind (required (a_new_name inputs sources []) place key.Name table) _ (sated_new_name inputs sources [] place table) (λ name.
    sated_bind (required a_language place key.Lang table) _ (sated_required a_language place key.Lang table (sated_language place key.Lang)) (λ lang.
    sated_bind (optional (a_number 0 most_address) place key.Base table) _ (sated_optional (a_number 0 most_address) place key.Base table (sated_number 0 most_address place key.Base)) (λ base.
    sated_bind (required (a_list a_name 1 64) place key.Files table) _
    (sated_required (a_list a_name 1 64) place key.Files table (λ value. sated_list a_name 1 64 place key.Files value (sated_name place key.Files))) (λ files.
    sated_bind (no_other_key place (key.Name ∷ key.Lang ∷ key.Base ∷ key.Files ∷ []) table) _ (sated_no_other_key place (key.Name ∷ key.Lang ∷ key.Base ∷ key.Files ∷ []) table) (λ other. sated_ok _)))))

sated_entry : (place : Place) (k entry_key : Key) (entry : Members) → Sated (entry_text place k entry_key entry)
sated_entry place k entry_key entry = sated_or (Missing place k) (option_and_then as_str (get_member (key_word entry_key) entry)) (λ is. absurd cc)

sated_file : (place : Place) (k : Key) (files : List StageFile) (value : Data) → Sated (next_file place k files value)
unfolding next_file
sated_file place k files value =
    sated_bind (a_table place k value) _ (sated_table place k value) (λ entry.
    sated_bind (entry_text place k key.Path entry) _ (sated_entry place k key.Path entry) (λ path_text.
    sated_bind (entry_text place k key.From entry) _ (sated_entry place k key.From entry) (λ from_text.
    sated_bind (no_other_key place (key.Path ∷ key.From ∷ []) entry) _ (sated_no_other_key place (key.Path ∷ key.From ∷ []) entry) (λ other.
    sated_bind (or_error (BadName place k) (name_of from_text)) _ (sated_or (BadName place k) (name_of from_text) (λ is. absurd cc)) (λ from.
    sated_bind (or_error (BadPath place k) (guest_path path_text)) _ (sated_or (BadPath place k) (guest_path path_text) (λ is. absurd cc)) (λ path.
    sated_bind (error_unless (DoubleName place k) (not (is_file_path files path))) _ (sated_unless (DoubleName place k) (not (is_file_path files path)) (λ is. absurd cc)) (λ new. sated_ok _)))))))

sated_files : (place : Place) (k : Key) (value : Data) → Sated (some_files place k value)
unfolding some_files
sated_files place k value = sated_bind (an_array 0 256 place k value) _ (sated_array 0 256 place k value) (λ entries. sated_gathered (next_file place k) [] entries (sated_file place k))

sated_output : (place : Place) (k : Key) (value : Data) → Sated (an_output place k value)
unfolding an_output
sated_output place k value = sated_bind (a_text place k value) _ (sated_text place k value) (λ text. sated_or (BadPath place k) (output_parsed text) (λ is. absurd cc))

abbrev stage_keys : List Key
stage_keys = key.Name ∷ key.Program ∷ key.Args ∷ key.Env ∷ key.Files ∷ key.Output ∷ key.Steps ∷ key.Heap ∷ key.Check ∷ key.Becomes ∷ []

sated_stage : (inputs : List Input) (sources : List Source) (stages : List Stage) (place : Place) (table : Members) → Sated (stage_table inputs sources stages place table)
unfolding stage_table
sated_stage inputs sources stages place table =
    sated_bind (required (a_new_name inputs sources stages) place key.Name table) _ (sated_new_name inputs sources stages place table) (λ name.
    sated_bind (required a_name place key.Program table) _ (sated_required a_name place key.Program table (sated_name place key.Program)) (λ program.
    sated_bind (required (a_list a_word 1 64) place key.Args table) _
    (sated_required (a_list a_word 1 64) place key.Args table (λ value. sated_list a_word 1 64 place key.Args value (sated_word place key.Args))) (λ args.
    sated_bind (optional (a_list a_word 0 64) place key.Env table) _
    (sated_optional (a_list a_word 0 64) place key.Env table (λ value. sated_list a_word 0 64 place key.Env value (sated_word place key.Env))) (λ env.
    sated_bind (optional some_files place key.Files table) _ (sated_optional some_files place key.Files table (sated_files place key.Files)) (λ files.
    sated_bind (required an_output place key.Output table) _ (sated_required an_output place key.Output table (sated_output place key.Output)) (λ output.
    sated_bind (required (a_number 1 most_steps) place key.Steps table) _ (sated_required (a_number 1 most_steps) place key.Steps table (sated_number 1 most_steps place key.Steps)) (λ steps.
    sated_bind (optional (a_number 0 most_heap) place key.Heap table) _ (sated_optional (a_number 0 most_heap) place key.Heap table (sated_number 0 most_heap place key.Heap)) (λ heap.
    sated_bind (optional a_name place key.Check table) _ (sated_optional a_name place key.Check table (sated_name place key.Check)) (λ check.
    sated_bind (optional a_name place key.Becomes table) _ (sated_optional a_name place key.Becomes table (sated_name place key.Becomes)) (λ becomes.
    sated_bind (no_other_key place stage_keys table) _ (sated_no_other_key place stage_keys table) (λ other. sated_ok _)))))))))))

sated_stage_name : (before : List (List ℕ)) (value : Data) → Sated (next_stage_name compare_place key.Stages before value)
unfolding next_stage_name
sated_stage_name before value =
    sated_bind (a_name compare_place key.Stages value) _ (sated_name compare_place key.Stages value) (λ name.
    sated_bind (error_unless (DoubleName compare_place key.Stages) (not (is_among before name))) (λ _. fine name)
    (sated_unless (DoubleName compare_place key.Stages) (not (is_among before name)) (λ is. absurd cc)) (λ u. sated_ok name))

sated_stage_names : (value : Data) → Sated (some_stage_names compare_place key.Stages value)
unfolding some_stage_names
sated_stage_names value =
    sated_bind (an_array 1 16 compare_place key.Stages value) _ (sated_array 1 16 compare_place key.Stages value) (λ values.
    sated_gathered (next_stage_name compare_place key.Stages) [] values (λ before. sated_stage_name before))

sated_stages : (one : Bool) (table : Members) → Sated (cond one (one_stage table) (required some_stage_names compare_place key.Stages table))
sated_stages true table =
    sated_bind (required a_name compare_place key.Stage table) _ (sated_required a_name compare_place key.Stage table (sated_name compare_place key.Stage)) (λ stage. sated_ok _)
sated_stages false table = sated_required some_stage_names compare_place key.Stages table sated_stage_names

sated_compare : (format : ℕ) (table : Members) → Sated (compare_table format table)
unfolding compare_table compared_stages
sated_compare format table =
    sated_bind (compared_stages format table) _ (sated_stages (format == 1) table) (λ stages.
    sated_bind (required a_name compare_place key.Binary table) _ (sated_required a_name compare_place key.Binary table (sated_name compare_place key.Binary)) (λ binary.
    sated_bind (no_other_key compare_place (stages_key format ∷ key.Binary ∷ []) table) _ (sated_no_other_key compare_place (stages_key format ∷ key.Binary ∷ []) table) (λ other. sated_ok _)))

sated_first : (bytes : List ℕ) → Sated (first_walk bytes)
unfolding first_walk
sated_first bytes =
    sated_bind (document_of bytes) _ (sated_document bytes) (λ document.
    sated_bind (top_table document) _ (sated_top document) (λ top.
    sated_bind (gathered next_input [] top.inputs) _ (sated_gathered next_input [] top.inputs (λ before. sated_input before (input_place (length before + 1)))) (λ inputs.
    sated_bind (gathered (next_source inputs) [] top.sources) _
    (sated_gathered (next_source inputs) [] top.sources (λ before. sated_source inputs before (source_place (length before + 1)))) (λ sources.
    sated_bind (gathered (next_stage inputs sources) [] top.stages) _
    (sated_gathered (next_stage inputs sources) [] top.stages (λ before. sated_stage inputs sources before (stage_place (length before + 1)))) (λ stages.
    sated_bind (compare_table top.format top.compare) _ (sated_compare top.format top.compare) (λ compare. sated_ok _))))))

-- ---- the second walk

sated_reference : (sources : List Source) (place : Place) (k : Key) (name : Option (List ℕ)) → Sated (refers_to_source sources place k name)
sated_reference sources place k None = sated_ok tt
sated_reference sources place k (Some name) = sated_unless (NotMadeYet place k) (is_some (source_named sources name)) (λ is. absurd cc)

sated_checks : (parsed : RecipeContents) (earlier : List Stage) (place : Place) (found : Option Source) → Sated (checks_source parsed earlier place found)
sated_checks parsed earlier place None = sated_or {A = Unit {0}} (NotMadeYet place key.Check) None (λ is. absurd cc)
sated_checks parsed earlier place (Some source) =
    sated_bind (error_unless (NotMadeYet place key.Check) (list_all (is_content parsed.inputs earlier) source.files)) (λ _. error_unless (BadName place key.Check) (is_defined source.lang))
    (sated_unless (NotMadeYet place key.Check) (list_all (is_content parsed.inputs earlier) source.files) (λ is. absurd cc)) (λ u.
    sated_unless (BadName place key.Check) (is_defined source.lang) (λ is. absurd cc))

sated_check : (parsed : RecipeContents) (earlier : List Stage) (place : Place) (check : Option (List ℕ)) → Sated (check_refers parsed earlier place check)
unfolding check_refers
sated_check parsed earlier place None = sated_ok tt
sated_check parsed earlier place (Some name) = sated_checks parsed earlier place (source_named parsed.sources name)

sated_after : (parsed : RecipeContents) (earlier : List Stage) (place : Place) (stage : Stage) → Sated (stage_refers_after parsed earlier place stage)
unfolding stage_refers_after
sated_after parsed earlier place stage =
    sated_bind (error_unless (NotMadeYet place key.Program) (is_content parsed.inputs earlier stage.program)) _
    (sated_unless (NotMadeYet place key.Program) (is_content parsed.inputs earlier stage.program) (λ is. absurd cc)) (λ u.
    sated_bind (error_unless (NotMadeYet place key.Files) (list_all (λ file. is_content parsed.inputs earlier file.from) stage.files)) _
    (sated_unless (NotMadeYet place key.Files) (list_all (λ file. is_content parsed.inputs earlier file.from) stage.files) (λ is. absurd cc)) (λ v.
    sated_bind (check_refers parsed earlier place stage.check) (λ _. refers_to_source parsed.sources place key.Becomes stage.becomes) (sated_check parsed earlier place stage.check) (λ w.
    sated_reference parsed.sources place key.Becomes stage.becomes)))

sated_comparison : (parsed : RecipeContents) → Sated (compare_refers parsed)
unfolding compare_refers
sated_comparison parsed =
    sated_bind (error_unless (NotMadeYet compare_place (stages_key parsed.format)) (list_all (is_stage parsed.stages) parsed.compare.stages))
    (λ _. error_unless (NotMadeYet compare_place key.Binary) (is_some (input_at parsed.inputs parsed.compare.binary)))
    (sated_unless (NotMadeYet compare_place (stages_key parsed.format)) (list_all (is_stage parsed.stages) parsed.compare.stages) (λ is. absurd cc)) (λ u.
    sated_unless (NotMadeYet compare_place key.Binary) (is_some (input_at parsed.inputs parsed.compare.binary)) (λ is. absurd cc))

sated_program : (parsed : RecipeContents) (found : Option Content) → Sated (has_source parsed found)
sated_program parsed None = sated_ok tt
sated_program parsed (Some (content.Input index)) = sated_unless _ (is_some (content_source parsed (content.Input index))) (λ is. absurd cc)
sated_program parsed (Some (content.Stage index)) = sated_unless _ (is_some (content_source parsed (content.Stage index))) (λ is. absurd cc)

sated_argued : (parsed : RecipeContents) (check : Option (List ℕ)) (program : List ℕ) → Sated (is_argued parsed check program)
sated_argued parsed (Some check) program = sated_ok tt
sated_argued parsed None program = sated_program parsed (content_named parsed.inputs parsed.stages program)

sated_second : (parsed : RecipeContents) → Sated (second_walk parsed)
unfolding second_walk
sated_second parsed =
    sated_bind (each_passes (input_refers parsed) 1 parsed.inputs) _
    (sated_passes (input_refers parsed) 1 parsed.inputs (λ number input. sated_reference parsed.sources (input_place number) key.Implements input.implements)) (λ a.
    sated_bind (each_passes (source_refers parsed) 1 parsed.sources) _
    (sated_passes (source_refers parsed) 1 parsed.sources (λ number source. sated_unless (NotMadeYet (source_place number) key.Files) (list_all (is_content parsed.inputs parsed.stages) source.files) (λ is. absurd cc))) (λ b.
    sated_bind (each_passes (stage_refers parsed) 1 parsed.stages) _
    (sated_passes (stage_refers parsed) 1 parsed.stages (λ number stage. sated_after parsed (take (number - 1) parsed.stages) (stage_place number) stage)) (λ d.
    sated_bind (compare_refers parsed) (λ _. each_passes (program_has_source parsed) 1 parsed.stages) (sated_comparison parsed) (λ f.
    sated_passes (program_has_source parsed) 1 parsed.stages (λ number stage. sated_argued parsed stage.check stage.program)))))

pub never_want : (bytes : List ℕ) → ¬ (recipe_of bytes ≡ Err OutOfMemory)
unfolding recipe_of
never_want bytes is =
    (sated_bind (first_walk bytes) _ (sated_first bytes) (λ parsed. sated_bind (second_walk parsed) (λ _. fine parsed) (sated_second parsed) (λ u. sated_ok parsed))).isnt is
