-- Theorems over the page: of one call, tick or power cycle; demand 1.
pub mod page
-- Theorems over histories: demand 3.
pub mod histories
