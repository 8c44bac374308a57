-- The laws of tidying, in reading order, then lemmas on nodes and stores that the crates of tidying cite.

-- which rule is taken, and what holds of every rule holds of a tidied tree; twice is once
pub mod Rules
-- it adds no node and no depth, keeps the places read, and keeps every value where the rules are equations
pub mod TidyKeeps
-- so with statements, and demand 3's condition on them
pub mod TidySheets
-- there is such a meaning
pub mod TidyWitness
-- values and formulas, computed
pub mod Tidied
-- tidied trees fit a table as those that were read do
pub mod Sizing
-- more trees laid after others
pub mod Forest
-- what stands after a run of stores
pub mod StoreRuns
