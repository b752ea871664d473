pub mod MigrationChanges
pub mod Migrated
pub mod Openings
pub mod Read
