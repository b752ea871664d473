pub mod EntryMessages
pub mod Sayings
pub mod Logins
pub mod PostgresLoginTalks
pub mod Courses
pub mod FrontLaws
pub mod LettingIn
pub mod Insides
